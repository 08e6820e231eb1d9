use Rattle.std.proofs.Common.{sym}
use Rattle.moves.proofs.Allowed.{to_mode_allowed}
use Rattle.moves.proofs.step.take_transition.Goals as goal

pub set_mode-requires : goal.set_mode-requires
set_mode-requires g c = rw c.from.ensures (to_mode_allowed (g.S.View.rows c.args.store.now) c.args.t c.in-Some.x (g.met.S.View.accepts c.args.store.now) (sym c.in-Some.ensures))
