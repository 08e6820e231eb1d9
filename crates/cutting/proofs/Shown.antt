-- The modes and values of a shown state.
use Rattle.std.proofs.Common.{◌≡◌, ℕ, Bool, true, false, cond, eqb, pos, sym, refl, ap, ◌∙◌}
use Rattle.std.proofs.lemmas.Bool.{false≢true, true≢false, ne_eqb, cond-true}
use Rattle.running.specs.States.{State, mode_of, held_of}
use Rattle.running.specs.Values.{lists}
use Rattle.running.proofs.Finds.{not_passed}
use Rattle.cutting.specs.declared.kinds.Thing.TheVariants.{Element as KeptElement, Mode as KeptMode}
use Rattle.cutting.specs.CutSheet.{shown_mode, shown_value, shown}
use Rattle.cutting.specs.Kept.{Kept}
use Rattle.cutting.proofs.NumberedLists.{get_d_numbered}
use Rattle.cutting.proofs.Passings.{either_same}

module _ (k : Kept) (w : State) where
  pub mode_of_shown : (c : ℕ) → mode_of (shown k w) c ≡ shown_mode k c (mode_of w c)
  mode_of_shown c = get_d_numbered (shown_mode k) 0 0 (λ i. either_same (k (KeptMode i 0)) 0) w.modes c

  pub held_of_shown : (e : ℕ) → held_of (shown k w) e ≡ shown_value k e (held_of w e)
  held_of_shown e = get_d_numbered (shown_value k) (pos 0) (pos 0) (λ i. either_same (k (KeptElement i)) (pos 0)) w.held e

  pub held_of_kept : (e : ℕ) → k (KeptElement e) ≡ true → held_of (shown k w) e ≡ held_of w e
  held_of_kept e h = held_of_shown e ∙ cond-true (k (KeptElement e)) (held_of w e) (pos 0) h

-- a mode m that is shown as 0 where it is not kept (b)
equal_shown : (b : Bool) (m f : ℕ) → (m ≡ f → b ≡ true) → (f ≡ 0 → ⊥) → eqb m f ≡ eqb (cond b m 0) f
equal_shown true m f h n = refl
equal_shown false m f h n = ne_eqb m f (λ e. false≢true (h e)) ∙ sym (ne_eqb 0 f (λ e. n (sym e)))

listed_shown : (b : Bool) (set m : ℕ) → (lists set m ≡ true → b ≡ true) → lists set 0 ≡ false → lists set m ≡ lists set (cond b m 0)
listed_shown true set m h z = refl
listed_shown false set m h z = not_passed (lists set m) (λ e. false≢true (h e)) ∙ sym z

module _ (k : Kept) (no_mode_0 : (c : ℕ) → k (KeptMode c 0) ≡ false) (w : State) where
  -- a component is in a kept mode exactly where it is shown there
  pub in_kept_mode : (c m : ℕ) → k (KeptMode c m) ≡ true → eqb (mode_of w c) m ≡ eqb (mode_of (shown k w) c) m
  in_kept_mode c m h =
      equal_shown (k (KeptMode c (mode_of w c))) (mode_of w c) m (λ e. ap (λ n. k (KeptMode c n)) e ∙ h) (λ z. true≢false (sym h ∙ ap (λ n. k (KeptMode c n)) z ∙ no_mode_0 c))
      ∙ ap (λ n. eqb n m) (sym (mode_of_shown k w c))

  -- a set of kept modes lists the mode exactly where it lists the shown one
  pub lists_kept_modes : (c set : ℕ) → ((m : ℕ) → lists set m ≡ true → k (KeptMode c m) ≡ true) → lists set (mode_of w c) ≡ lists set (mode_of (shown k w) c)
  lists_kept_modes c set h =
      listed_shown (k (KeptMode c (mode_of w c))) set (mode_of w c) (h (mode_of w c)) (none (lists set 0) refl)
      ∙ ap (lists set) (sym (mode_of_shown k w c))
    where
      none : (l : Bool) → lists set 0 ≡ l → l ≡ false
      none true e = sym (h 0 e) ∙ no_mode_0 c
      none false e = refl
