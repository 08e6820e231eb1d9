use Rattle.std.proofs.Common.{sym, ◌∙◌, arith}
use Rattle.std.proofs.lemmas.Bool.{le-ltb}
use Rattle.view.proofs.Tables.{lists_none_above}
use Rattle.view.proofs.values.lists_mode.Goals as goal

pub returns-else-mode-lt16 : goal.returns-else-mode-lt16
returns-else-mode-lt16 c = le-ltb c.args.mode 16 (omega arith) ∙ sym (lists_none_above c.args.set c.args.mode (omega (arith, c.ranges.set.fits)) (omega arith))
