use Rattle.std.proofs.Common.{◌≡◌, ℕ, false, Decides, refl, arith, rules}
use Rattle.std.proofs.Math.Bool.{Bool-set}
use Rattle.std.proofs.Math.Logic.{∥∥₁_elim}
use Rattle.std.proofs.lemmas.Iterator.{cases_from_all, YieldsList-from_range}
use Rattle.cutting.specs.Agreement.{IsKeptElement}
use Rattle.running.specs.Steps.{value_at}
use Rattle.sheet.specs.Sections.{elements}
use Rattle.sheet.specs.Typed.{element_entry}
use Rattle.comparing.proofs.Limits.{all_rows, below_limit}
use Rattle.comparing.proofs.same.Pair.are_same_values.Goals as goal

pub returns : goal.returns
returns g c =
    let b = g.P.Rig.rows c.args.self.now.pile.now in
    let same : ℕ → Type 0 = λ i. value_at (g.W.Rig.rows c.args.self.now.whole.now) (g.W.Rig.means c.args.self.now.whole.now).state i ≡ value_at b (g.P.Rig.means c.args.self.now.pile.now).state i in
    let alike : ℕ → Type 0 = λ i. IsKeptElement b i → same i in
    let tried = cases_from_all _ _ c.all.result alike (λ i. Decides false (alike i)) c.all.ensures.ran (YieldsList-from_range 0 64 64 refl refl) (λ x q k. search rules) (λ x q k. search rules) in
    let accepts = ∥∥₁_elim c.args.self.now.pile_fits (Bool-set _ _) (λ fits. (g.met.P.Rig.sound c.args.self.now.pile.now fits).accepts) in
    below_limit alike 64 c.all.result tried (all_rows element_entry b elements 64 accepts (omega arith) refl same)
