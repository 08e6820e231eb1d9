use Rattle.std.proofs.Common.{◌∙◌, w32}
use Rattle.std.proofs.Math.Logic.{∥∥₁_elim}
use Rattle.std.proofs.lemmas.Int.{to_z-of_z}
use lib.IntN.{ℤ_set}
use Rattle.rig.proofs.Told.{value_told}
use Rattle.rig.proofs.seen.SeenView.held.Goals as goal

pub returns : goal.returns
returns g c h =
    let x = c.args.self.now.rig.now in
    to_z-of_z w32 c.unwrap_or.result (record { sfits = c.unwrap_or.type_inv }) ∙ c.unwrap_or.ensures ∙ ∥∥₁_elim c.args.self.now.fits (ℤ_set _ _) (λ fits.
    let k = g.met.R.Rig.sound x fits in
    value_told (g.R.Rig.rows x) (g.R.Rig.means x).state k.accepts k.state_of c.args.element c.value.result c.value.ensures h)
