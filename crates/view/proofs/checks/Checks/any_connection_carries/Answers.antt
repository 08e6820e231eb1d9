use Rattle.std.proofs.Common.{◌≡◌, ℕ, Bool, true, false, length, refl, ◌∙◌, arith, rules}
use Rattle.std.proofs.lemmas.Iterator.{cases_from_any, YieldsList-from_range}
use Rattle.running.specs.Steps.{carries}
use Rattle.sheet.specs.Lookup.{connection_at, is}
use Rattle.sheet.specs.Sections.{rows, connections}
use Rattle.sheet.proofs.Shapes.{count_is}
use Rattle.view.proofs.Carried.{carried_by_cases}
use Rattle.view.proofs.checks.Checks.any_connection_carries.Goals as goal

pub returns : goal.returns
returns g c =
    let s = g.V.View.rows c.args.self.now.view.now in
    let n = c.unwrap_or-count.result in
    let test : ℕ → Bool = λ i. is (connection_at s i) (carries (g.V.View.state c.args.self.now.view.now) c.args.out c.args.into) in
    let found = cases_from_any _ _ c.any.result (λ j. test j ≡ true) (λ j. test j ≡ false) c.any.ensures.ran (YieldsList-from_range 0 n n refl (omega arith)) (λ x q k. search rules) (λ x q k. search rules) in
    let all : n ≡ length (rows s connections) = c.unwrap_or-count.ensures ∙ count_is s connections (g.met.V.View.accepts c.args.self.now.view.now) (omega arith) c.count.result c.count.ensures in
    carried_by_cases (g.V.View.state c.args.self.now.view.now) c.args.out c.args.into (rows s connections) n c.any.result all found
