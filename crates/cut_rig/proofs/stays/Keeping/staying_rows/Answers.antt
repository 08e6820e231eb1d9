use Rattle.std.proofs.Common.{◌≡◌, ℕ, ◌<◌, ◌≤◌, Bool, false, [], get_or, set, sym, ap, ◌∙◌, ⊎_elim, arith, length-set}
use Rattle.std.proofs.lemmas.List.{get_or-set_same, get_or-set_other}
use Rattle.std.proofs.lemmas.Bool.{cases_lt}
use Rattle.closing.specs.Marks.{kept_of}
use Rattle.cutting.specs.CutCells.{row_stays}
use Rattle.cutting.specs.Kept.{chosen_in}
use Rattle.cut_rig.proofs.stays.Keeping.staying_rows.Goals as goal

pub loop-section-preserved : goal.loop-section-preserved
loop-section-preserved g c =
    let sections = c.loop-section.rows-items in
    let n = c.loop-section.section in
    let long = c.loop-section.invariant.long in
    let rows = c.staying_of.result in
    let stay : ℕ → ℕ → Bool = row_stays (kept_of c.args.self.now.marks.now) (chosen_in c.args.self.now.set) (g.V.View.rows c.args.self.now.view.now) in
    record {
      long = length-set sections n rows ∙ long;
      made = λ section i l few.
          ⊎_elim
          (λ (below : section < n). ap (λ r. get_or r i false) (get_or-set_other sections n section rows [] (λ h. absurd (omega arith))) ∙ c.loop-section.invariant.made section i below few)
          (λ (up : n ≤ section).
          let here : section ≡ n = omega arith in
          ap (λ k. get_or (get_or (set sections n rows) k []) i false) here ∙ ap (λ r. get_or r i false) (get_or-set_same sections n rows [] (omega (arith, c.loop-section-test.true, long))) ∙ c.staying_of.ensures i few ∙ ap (λ k. stay k i) (sym here))
          (cases_lt section n);
    }
