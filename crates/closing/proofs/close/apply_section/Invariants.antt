use Rattle.marking.specs.Passes.{Passed}
use Rattle.marking.proofs.Walks.{RowsFrom}
use Rattle.closing.proofs.close.apply_section.Given as goal

abbrev pub invariant-loop-row : goal.invariant-loop-row
invariant-loop-row g l = Passed (g.V.View.rows l.view) (RowsFrom l.section l.row) l.initial.marks.table l.marks.table
