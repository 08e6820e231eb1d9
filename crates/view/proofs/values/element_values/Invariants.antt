use Rattle.running.specs.Values.{element_cell}
use Rattle.view.proofs.Tables.{Filled}
use Rattle.view.proofs.values.element_values.Given as goal

abbrev pub invariant-loop-e : goal.invariant-loop-e
invariant-loop-e g l = Filled (element_cell (g.V.View.rows l.view) (g.V.View.state l.view)) l.table 64 l.e
