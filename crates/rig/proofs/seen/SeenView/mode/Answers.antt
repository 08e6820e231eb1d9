use Rattle.std.proofs.Common.{ap, ◌∙◌}
use Rattle.running.specs.States.{mode_of}
use Rattle.rig.proofs.Told.{mode_told}
use Rattle.rig.proofs.seen.SeenView.mode.Goals as goal

pub returns : goal.returns
returns g c =
    let x = c.fitting_rig.result.now in
    let k = g.met.R.Rig.sound x c.fitting_rig.ensures.fits in
    c.unwrap_or.ensures ∙ mode_told (g.R.Rig.rows x) (g.R.Rig.means x).state k.accepts k.state_of c.args.component c.mode.result c.mode.ensures ∙ ap (λ y. mode_of (g.R.Rig.means y).state c.args.component) c.fitting_rig.ensures.rig
