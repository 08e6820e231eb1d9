use Rattle.std.proofs.Common.{◌≡◌, ℕ, ◌<◌, ◌≤◌, Bool, false, get_or, set, sym, ap, ◌∙◌, ⊎_elim, arith}
use Rattle.std.proofs.lemmas.List.{get_or-set_same, get_or-set_other}
use Rattle.std.proofs.lemmas.Bool.{cases_lt}
use Rattle.closing.specs.Marks.{kept_of}
use Rattle.cutting.specs.CutCells.{row_stays}
use Rattle.cutting.specs.Kept.{chosen_in}
use Rattle.cut_rig.proofs.stays.Keeping.staying_of.Goals as goal

pub loop-row-preserved : goal.loop-row-preserved
loop-row-preserved g c i l =
    let rows = c.loop-row.stay-items in
    let n = c.loop-row.row in
    let b = c.stays.result in
    let stay : ℕ → Bool = row_stays (kept_of c.args.self.now.marks.now) (chosen_in c.args.self.now.set) (g.V.View.rows c.args.self.now.view.now) c.args.section in
    ⊎_elim
    (λ (below : i < n). get_or-set_other rows n i b false (λ h. absurd (omega arith)) ∙ c.loop-row.invariant i below)
    (λ (up : n ≤ i). let here : i ≡ n = omega arith in ap (λ p. get_or (set rows n b) p false) here ∙ get_or-set_same rows n b false (omega (arith, c.loop-row-test.true)) ∙ c.stays.ensures ∙ ap stay (sym here))
    (cases_lt i n)
