use Rattle.std.proofs.Common.{◌/◌, ◌%◌, get_or, set, ap, ◌∙◌, arith, rules}
use Rattle.image.specs.Bits.{number_of}
use Rattle.bits.proofs.Cells.{set_bit, set_in_byte, clear_in_byte}
use Rattle.bits.proofs.string.put_bit.Goals as goal

pub returns-then-set : goal.returns-then-set
returns-then-set c =
    rw c.if-set.true
    (ap (λ x. number_of (set c.args.bytes.now (c.args.at / 8) x)) (set_in_byte (get_or c.args.bytes.now (c.args.at / 8) 0) (c.args.at % 8) (omega arith))
    ∙ set_bit c.args.bytes.now c.args.at 1 (search rules) (omega arith) (omega (arith, c.requires)))

pub returns-else-set : goal.returns-else-set
returns-else-set c =
    rw c.if-set.false
    (ap (λ x. number_of (set c.args.bytes.now (c.args.at / 8) x)) (clear_in_byte (get_or c.args.bytes.now (c.args.at / 8) 0) (c.args.at % 8) (omega arith) (search rules))
    ∙ set_bit c.args.bytes.now c.args.at 0 (search rules) (omega arith) (omega (arith, c.requires)))
