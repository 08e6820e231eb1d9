use Rattle.std.proofs.Common.{◌/◌, ◌%◌, get_or, ◌∙◌, rules}
use Rattle.bits.proofs.Cells.{read_bit, bit_part}
use Rattle.bits.proofs.string.is_set.Goals as goal

pub returns : goal.returns
returns c = read_bit (get_or c.args.bytes.now (c.args.at / 8) 0) (c.args.at % 8) ∙ bit_part c.args.bytes.now c.args.at (search rules)
