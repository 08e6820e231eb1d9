use Rattle.std.proofs.Common.{◌≡◌, drop}
use Rattle.comparing.proofs.Runs.{Along}
use Rattle.comparing.proofs.compare.compare.Given as goal

abbrev pub invariant-loop-call : goal.invariant-loop-call
invariant-loop-call g l = g.P.Rig.fits l.pile × g.W.Rig.fits l.whole × (g.P.Rig.rows l.pile ≡ g.P.Rig.rows l.initial.pile) × (g.W.Rig.rows l.whole ≡ g.W.Rig.rows l.initial.whole) × Along (g.W.Rig.rows l.initial.whole) (g.P.Rig.rows l.initial.pile) (g.W.Rig.means l.initial.whole).state (g.P.Rig.means l.initial.pile).state (g.W.Rig.means l.whole).state (g.P.Rig.means l.pile).state l.calls (drop l.call-index l.calls) l.agreed
