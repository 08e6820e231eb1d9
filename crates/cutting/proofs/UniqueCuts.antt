-- There is at most one smallest set of kept things, and so at most one cut for a set of questions.
use Rattle.std.proofs.Common.{◌≡◌, Bool, true, false, sym, refl, ap, ◌∙◌}
use mathlib.Core.Path.{fun_ext}
use Rattle.cutting.specs.CutSheet.{cut_sheet}
use Rattle.cutting.specs.Kept.{chosen_in}
use Rattle.cutting.specs.Laws.{SmallestIsUnique, CutIsUnique}

-- tests that pass together are the same
same_test : (x y : Bool) → (x ≡ true → y ≡ true) → (y ≡ true → x ≡ true) → x ≡ y
same_test true y f g = sym (f refl)
same_test false true f g = g refl
same_test false false f g = refl

pub smallest_is_unique : SmallestIsUnique
smallest_is_unique s chosen j k p q = fun_ext (λ x. same_test (j x) (k x) (p.least k q.closed x) (q.least j p.closed x))

pub cut_is_unique : CutIsUnique
cut_is_unique s set t u p q =
    p.leaves
    ∙ ap (λ k. cut_sheet k (chosen_in set) s) (smallest_is_unique s (chosen_in set) p.kept q.kept p.smallest q.smallest)
    ∙ sym q.leaves
