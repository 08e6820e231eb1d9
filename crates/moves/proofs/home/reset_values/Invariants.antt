use Rattle.moves.proofs.Homes.{ValuesReset}
use Rattle.moves.proofs.home.reset_values.Given as goal

abbrev pub invariant-loop-e : goal.invariant-loop-e
invariant-loop-e g l = ValuesReset (g.S.View.rows l.initial.store) (g.S.View.rows l.store) (g.S.View.state l.initial.store) (g.S.View.state l.store) l.count l.e
