use Rattle.std.proofs.Common.{sym, ◌∙◌, arith}
use Rattle.std.proofs.lemmas.Bool.{le-ltb}
use Rattle.marking.proofs.Questions.{chosen_below}
use Rattle.closing.proofs.close.is_chosen.Goals as goal

pub returns-else-question-lt-QUESTION_NUMBERS : goal.returns-else-question-lt-QUESTION_NUMBERS
returns-else-question-lt-QUESTION_NUMBERS c = le-ltb c.args.question 16 (omega arith) ∙ sym (chosen_below c.args.set c.args.question (omega (arith, c.ranges.set.fits)) (omega arith))
