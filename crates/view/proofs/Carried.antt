-- What `any` answers of the connections by their numbers.
use Rattle.std.proofs.Common.{◌≡◌, ℕ, zero, suc, ◌+◌, ◌<◌, Bool, true, false, List, [], ◌∷◌, length, sym, refl, ◌∙◌, subst, arith}
use Rattle.std.proofs.lemmas.Bool.{or_left, or_right, false≢true}
use Rattle.std.proofs.lemmas.List.FromFn.{get_or-range_with_len, length-range_with_len}
use Rattle.std.specs.Bool.{MatchBool}
use Rattle.std.specs.List.{AllWithin, HoldsAt, range_with_len}
use Rattle.sheet.specs.Lookup.{held, there, is}
use Rattle.sheet.specs.Sections.{Row}
use Rattle.sheet.specs.Typed.{connection_entry}
use Rattle.running.specs.States.{State}
use Rattle.running.specs.Steps.{carries, any_carries}

module _ (w : State) (o v : ℕ) where
  abbrev pub carried_at : List Row → ℕ → Bool
  carried_at rs i = is (there connection_entry rs i) (carries w o v)

  some_carries : (rs : List Row) (i : ℕ) → carried_at rs i ≡ true → any_carries w o v rs ≡ true
  some_carries [] i h = absurd (false≢true h)
  some_carries (r ∷ rs) zero h = or_left (is (held (connection_entry r)) (carries w o v)) (any_carries w o v rs) h
  some_carries (r ∷ rs) (suc i) h = or_right (is (held (connection_entry r)) (carries w o v)) (any_carries w o v rs) (some_carries rs i h)

  none_carries : (rs : List Row) → ((i : ℕ) → i < length rs → carried_at rs i ≡ false) → any_carries w o v rs ≡ false
  none_carries [] h = refl
  none_carries (r ∷ rs) h = rw (h 0 (omega arith), none_carries rs (λ i l. h (suc i) (omega arith)))

  pub carried_by_cases : (rs : List Row) (n : ℕ) (r : Bool) → n ≡ length rs → MatchBool r ((k : ℕ) × (k < length (range_with_len 0 n)) × HoldsAt (λ i. carried_at rs i ≡ true) (range_with_len 0 n) k) (AllWithin (λ i. carried_at rs i ≡ false) (range_with_len 0 n) 0 (length (range_with_len 0 n))) → r ≡ any_carries w o v rs
  carried_by_cases rs n true e h = let found = h.2 0 in sym (some_carries rs _ found)
  carried_by_cases rs n false e h =
      let at : (i : ℕ) → i < n → carried_at rs i ≡ false = λ i l. let here : 0 + i ≡ i = omega arith in subst (λ k. carried_at rs k ≡ false) (get_or-range_with_len 0 n i 0 l ∙ here) (h i 0 (omega arith) (omega (arith, length-range_with_len 0 n))) in
      sym (none_carries rs (λ i l. at i (omega (arith, e))))
