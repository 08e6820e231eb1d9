-- What is tried of each number below a limit holds of each number, where nothing stands past the limit.
use Rattle.std.proofs.Common.{◌≡◌, ℕ, ◌<◌, ◌≤◌, Bool, true, false, length, get_or, is_some, Decides, sym, refl, ap, ◌∙◌, subst, ⊎_elim, arith}
use Rattle.std.proofs.lemmas.List.FromFn.{get_or-range_with_len, length-range_with_len}
use Rattle.std.specs.Bool.{MatchBool}
use Rattle.std.specs.List.{AllWithin, HoldsAt, range_with_len}
use Rattle.std.proofs.lemmas.Bool.{false≢true, cases_lt}
use Rattle.sheet.specs.Entry.{Entry}
use Rattle.sheet.specs.Accept.{accepted}
use Rattle.sheet.specs.Lookup.{there}
use Rattle.sheet.specs.Sections.{Row, Sheet, rows, shape, shapes}
use Rattle.sheet.proofs.Lookups.{there_past}
use Rattle.sheet.proofs.Shapes.{sized}

module _ {X : Type 0} (entry : Row → Entry X) (s : Sheet) (k most : ℕ) (a : accepted s ≡ true) (section : k < 9) (limit : (get_or shapes k (shape 0 0 0)).most ≡ most) where
  -- no row stands at the limit or past it
  none_past : (i : ℕ) → most ≤ i → is_some (there entry (rows s k) i) ≡ true → ⊥
  none_past i l h = false≢true (sym (ap is_some (there_past entry (rows s k) i (omega (arith, (sized s k a section).within, limit)))) ∙ h)

  -- what holds of the rows below the limit holds of all rows
  pub all_rows : (P : ℕ → Type 0) → ((i : ℕ) → i < most → is_some (there entry (rows s k) i) ≡ true → P i) → (i : ℕ) → is_some (there entry (rows s k) i) ≡ true → P i
  all_rows P h i kept = ⊎_elim (λ (l : i < most). h i l kept) (λ (l : most ≤ i). absurd (none_past i l kept)) (cases_lt i most)

-- what `all` answers of the numbers below a limit that speak for all numbers
pub below_limit : (P : ℕ → Type 0) (n : ℕ) (r : Bool) → MatchBool r (AllWithin P (range_with_len 0 n) 0 (length (range_with_len 0 n))) ((k : ℕ) × (k < length (range_with_len 0 n)) × HoldsAt (λ i. Decides false (P i)) (range_with_len 0 n) k) → (((i : ℕ) → i < n → P i) → (i : ℕ) → P i) → Decides r ((i : ℕ) → P i)
below_limit P n true h all =
    let at : (i : ℕ) → i < n → get_or (range_with_len 0 n) i 0 ≡ i = λ i l. omega (arith, get_or-range_with_len 0 n i 0 l) in
    ((λ _. all (λ i l. subst P (at i l) (h i 0 (omega arith) (omega (arith, length-range_with_len 0 n))))), (λ _. refl))
below_limit P n false h all = ((λ e. absurd (false≢true e)), (λ every. (h.2 0).1 (every (get_or (range_with_len 0 n) h.0 0))))
