-- Whether a test holds of a number below another.
use Rattle.std.proofs.Common.{◌≡◌, ℕ, zero, suc, ◌+◌, ◌<◌, ◌≤◌, Bool, true, false, ⊎_elim, add-one, arith}
use Rattle.std.proofs.lemmas.Bool.{or_left, or_right, cases_lt}
use Rattle.sheet.specs.Rules.{any_below}

pub none_more : (p : ℕ → Bool) (i : ℕ) → any_below i p ≡ false → p i ≡ false → any_below (i + 1) p ≡ false
none_more p i e h = rw (add-one, e, h)

pub some_below : (p : ℕ → Bool) (j n : ℕ) → j < n → p j ≡ true → any_below n p ≡ true
some_below p j zero l h = absurd (omega arith)
some_below p j (suc n) l h =
    ⊎_elim
    (λ (below : j < n). or_left (any_below n p) (p n) (some_below p j n below h))
    (λ (up : n ≤ j). let same : n ≡ j = omega arith in or_right (any_below n p) (p n) (rw same h))
    (cases_lt j n)
