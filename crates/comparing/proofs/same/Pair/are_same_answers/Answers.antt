use Rattle.std.proofs.Common.{◌≡◌, ℕ, false, Decides, refl, arith, rules}
use Rattle.std.proofs.Math.Bool.{Bool-set}
use Rattle.std.proofs.Math.Logic.{∥∥₁_elim}
use Rattle.std.proofs.lemmas.Iterator.{cases_from_all, YieldsList-from_range}
use Rattle.cutting.specs.Agreement.{IsKeptQuestion}
use Rattle.running.specs.Steps.{answer_of}
use Rattle.sheet.specs.Sections.{questions}
use Rattle.sheet.specs.Typed.{question_entry}
use Rattle.comparing.proofs.Limits.{all_rows, below_limit}
use Rattle.comparing.proofs.same.Pair.are_same_answers.Goals as goal

pub returns : goal.returns
returns g c =
    let b = g.P.Rig.rows c.args.self.now.pile.now in
    let same : ℕ → Type 0 = λ i. answer_of (g.W.Rig.rows c.args.self.now.whole.now) (g.W.Rig.means c.args.self.now.whole.now).state i ≡ answer_of b (g.P.Rig.means c.args.self.now.pile.now).state i in
    let alike : ℕ → Type 0 = λ i. IsKeptQuestion b i → same i in
    let tried = cases_from_all _ _ c.all.result alike (λ i. Decides false (alike i)) c.all.ensures.ran (YieldsList-from_range 0 16 16 refl refl) (λ x q k. search rules) (λ x q k. search rules) in
    let accepts = ∥∥₁_elim c.args.self.now.pile_fits (Bool-set _ _) (λ fits. (g.met.P.Rig.sound c.args.self.now.pile.now fits).accepts) in
    below_limit alike 16 c.all.result tried (all_rows question_entry b questions 16 accepts (omega arith) refl same)
