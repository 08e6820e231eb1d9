use Rattle.closing.proofs.close.mark_questions.Given as goal
use Rattle.marking.proofs.Questions.{AskedBelow}

abbrev pub invariant-loop-q : goal.invariant-loop-q
invariant-loop-q g l = AskedBelow (g.V.View.rows l.view) l.set l.initial.marks.table l.marks.table l.q
