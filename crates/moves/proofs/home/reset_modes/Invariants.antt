use Rattle.moves.proofs.Homes.{ModesReset}
use Rattle.moves.proofs.home.reset_modes.Given as goal

abbrev pub invariant-loop-c : goal.invariant-loop-c
invariant-loop-c g l = ModesReset (g.S.View.rows l.initial.store) (g.S.View.rows l.store) (g.S.View.state l.initial.store) (g.S.View.state l.store) l.count l.c
