use Rattle.running.specs.Values.{node_cell}
use Rattle.view.proofs.Tables.{Filled}
use Rattle.view.proofs.values.worths.Given as goal

abbrev pub invariant-loop-n : goal.invariant-loop-n
invariant-loop-n g l = Filled (node_cell (g.V.View.rows l.view) (g.V.View.state l.view) l.values) l.table 128 l.n
