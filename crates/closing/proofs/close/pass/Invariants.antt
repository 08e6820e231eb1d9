use Rattle.marking.specs.Passes.{Passed}
use Rattle.marking.proofs.Walks.{SectionsBelow}
use Rattle.closing.proofs.close.pass.Given as goal

abbrev pub invariant-loop-section : goal.invariant-loop-section
invariant-loop-section g l = Passed (g.V.View.rows l.view) (SectionsBelow l.section) l.initial.marks.table l.marks.table
