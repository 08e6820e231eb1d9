-- The field says only that a proof of `fits` exists, since a rig may fit in more than one way. An entailment is a proposition, so the proof is opened in front of the walk that Rattle made.
use mathlib.Core.Logic.{∥∥₁_elim}
use mathlib.Core.Path.{refl}
use seplogic.Bi.Basic.{Entails-prop}
use base.Logic.{via, mono_r}
use denote.Triple.Entry.{on_entry}
use borrow.Fn.Kinds.{sig_of}
use contract.Monad.{fact_mono}
use Rattle.rig.proofs.seen.Seen.fitting_rig.Statement.{statement}
use Rattle.rig.proofs.seen.Seen.fitting_rig.Lts as lts
use Rattle.rig.proofs.seen.Seen.fitting_rig.Reads as reads
use Rattle.rig.proofs.seen.Seen.fitting_rig.Tie as tie

pub fitting_rig_spec : {M : Type 1} → statement M
fitting_rig_spec {M} =
    tie.close (λ R L g d w met 𝓤 𝓛 𝓣 y.
    ∥∥₁_elim y.0.3.0.now.fits (Entails-prop 𝓤.op _ _) (λ fits.
    via 𝓤 _ (mono_r 𝓤 (on_entry 𝓛 (sig_of 3 (lts.ps R L g d) (lts.r R L g d)) y.0.0 y.0.1 y.0.3 y.0.4) (fact_mono 𝓤 _ (g.fits y.0.3.0.now.rig.now) (λ _. fits)))
    (lts.spec R L g d (λ κs a. g.fits a.0.now.rig.now) (reads.Post R L g d) (λ c. (refl, c.requires)) 𝓤 𝓛 𝓣 y)))
