-- The start of a cut shows the start of the sheet below, and the cut shows states of the sheet as states of its own.
use Rattle.std.proofs.Common.{◌≡◌, ℕ, ◌≤◌, Bool, true, false, cond, not, pos, Some, None, Option, sym, refl, ap, ◌∙◌, subst, ⊎_elim, arith, Err, Ok}
use Rattle.std.proofs.lemmas.Bool.{cases_Bool, cond-true, cond-false, cond_both}
use Rattle.std.specs.Option.{option_map}
use Rattle.sheet.specs.Entry.{Entry}
use Rattle.sheet.specs.declared.rows.Component.{Component}
use Rattle.sheet.specs.declared.rows.Element.{Element}
use Rattle.sheet.specs.Accept.{accepted}
use Rattle.sheet.specs.Lookup.{held, component_at, element_at, is}
use Rattle.sheet.specs.Rules.{is_port}
use Rattle.sheet.specs.Sections.{Row, Sheet, rows, components, elements}
use Rattle.sheet.specs.Typed.{at, holds_if, component_entry, element_entry}
use Rattle.running.specs.States.{State, mode_of, held_of, in_range, is_held, StateOf, start_mode, start_value, start_state}
use Rattle.running.specs.Steps.{mode_at}
use Rattle.cutting.specs.declared.kinds.Thing.TheVariants.{Element as KeptElement, Mode as KeptMode}
use Rattle.cutting.specs.CutSheet.{blank_row, shown_mode, shown_value, shown, cut_component, cut_element, cut_sheet}
use Rattle.cutting.specs.Kept.{Kept, Chosen}
pub use Rattle.cutting.proofs.CutRows.{component_cut}
use Rattle.cutting.proofs.CutRows.{right_component, with_start}
use Rattle.cutting.proofs.KeptRows.{element_kept, element_was}
use Rattle.cutting.proofs.KeptSteps.{same_state}
use Rattle.cutting.proofs.NumberedLists.{length_numbered, numbered_map}
use Rattle.cutting.proofs.Passings.{either_same, mapped_found}
use Rattle.cutting.proofs.Shown.{mode_of_shown, held_of_shown, held_of_kept}

-- ---- the start

start_if : (b : Bool) (n m : ℕ) → start_mode (holds_if b (record { modes = n; start = m })) ≡ cond b m 0
start_if true n m = refl
start_if false n m = refl

-- a start mode m that is shown as 0 where it is not kept (b)
start_kept : (k : Kept) (c n m : ℕ) (b : Bool) → k (KeptMode c m) ≡ b → shown_mode k c (cond (right_component n m) m 0) ≡ cond (right_component n (cond b m 0)) (cond b m 0) 0
start_kept k c n m true e = by (right_component n m)
  where
    by : (r : Bool) → shown_mode k c (cond r m 0) ≡ cond r m 0
    by true = cond-true (k (KeptMode c m)) m 0 e
    by false = either_same (k (KeptMode c 0)) 0
start_kept k c n m false e = by (right_component n m) ∙ sym (either_same (right_component n 0) 0)
  where
    by : (r : Bool) → shown_mode k c (cond r m 0) ≡ 0
    by true = cond-false (k (KeptMode c m)) m 0 e
    by false = either_same (k (KeptMode c 0)) 0

start_mode_shown : (k : Kept) (c : ℕ) (r : Row) → shown_mode k c (start_mode (component_entry r)) ≡ start_mode (component_entry (cut_component k c r))
start_mode_shown k c r =
    ap (shown_mode k c) (start_if (right_component (at r 0) (at r 1)) (at r 0) (at r 1))
    ∙ start_kept k c (at r 0) (at r 1) (k (KeptMode c (at r 1))) refl
    ∙ sym (start_if (right_component (at r 0) (shown_mode k c (at r 1))) (at r 0) (shown_mode k c (at r 1)))

start_value_by : (k : Kept) (e : ℕ) (r : Row) (v : Entry Element) → element_entry r ≡ v → shown_value k e (start_value v) ≡ start_value (element_entry (cond (is (held v) (λ x. k (KeptElement e))) r (blank_row elements)))
start_value_by k e r (Ok None) h = either_same (k (KeptElement e)) (pos 0)
start_value_by k e r (Err _) h = either_same (k (KeptElement e)) (pos 0)
start_value_by k e r (Ok (Some x)) h = by (k (KeptElement e))
  where
    by : (b : Bool) → cond b (start_value (Ok (Some x))) (pos 0) ≡ start_value (element_entry (cond b r (blank_row elements)))
    by true = sym (ap start_value h)
    by false = refl

pub start_shown : (s : Sheet) (k : Kept) (chosen : Chosen) → shown k (start_state s) ≡ start_state (cut_sheet k chosen s)
start_shown s k chosen =
    same_state
    (numbered_map (shown_mode k) (λ r. start_mode (component_entry r)) (cut_component k) (start_mode_shown k) (rows s components))
    (numbered_map (shown_value k) (λ r. start_value (element_entry r)) (cut_element k) (λ e r. start_value_by k e r (element_entry r) refl) (rows s elements))

-- ---- states

module _ (s : Sheet) (a : accepted s ≡ true) (k : Kept) (chosen : Chosen) where
  -- The mode of a component of the cut: the one below, as it is shown.
  pub mode_shown : (w : State) (c : ℕ) → mode_at (cut_sheet k chosen s) (shown k w) c ≡ option_map (shown_mode k c) (mode_at s w c)
  mode_shown w c =
      ap (option_map (λ x. mode_of (shown k w) c)) (component_cut s a k chosen c)
      ∙ ap (λ m. option_map (λ x. m) (option_map (with_start k c) (component_at s c))) (mode_of_shown k w c)
      ∙ by (component_at s c)
    where
      by : (o : Option Component) → option_map (λ x. shown_mode k c (mode_of w c)) (option_map (with_start k c) o) ≡ option_map (shown_mode k c) (option_map (λ x. mode_of w c) o)
      by None = refl
      by (Some x) = refl

  mode_fits : (w : State) (c : ℕ) (x : Component) → ((y : Component) → component_at s c ≡ Some y → mode_of w c ≤ y.modes) → component_at (cut_sheet k chosen s) c ≡ Some x → mode_of (shown k w) c ≤ x.modes
  mode_fits w c x h e =
      let p = mapped_found (with_start k c) (component_at s c) x (sym (component_cut s a k chosen c) ∙ e) in
      let same : p.0.modes ≡ x.modes = ap (λ (y : Component). y.modes) p.2 in
      let below : mode_of w c ≤ x.modes = subst (λ n. mode_of w c ≤ n) same (h p.0 p.1) in
      subst (λ m. m ≤ x.modes) (sym (mode_of_shown k w c)) (cond_both (k (KeptMode c (mode_of w c))) (mode_of w c) 0 (λ m. m ≤ x.modes) (λ _. below) (λ _. omega arith))

  value_fits : (w : State) (e : ℕ) (x : Element) → ((y : Element) → element_at s e ≡ Some y → is_port y ≡ false → in_range y (held_of w e) ≡ true) → element_at (cut_sheet k chosen s) e ≡ Some x → is_port x ≡ false → in_range x (held_of (shown k w) e) ≡ true
  value_fits w e x h d held =
      let p = element_was k chosen s e x d in
      ap (in_range x) (held_of_kept k w e p.1) ∙ h x p.0 held

  nothing_shown : (w : State) (e : ℕ) → (is_held s e ≡ false → held_of w e ≡ pos 0) → is_held (cut_sheet k chosen s) e ≡ false → held_of (shown k w) e ≡ pos 0
  nothing_shown w e h n =
      ⊎_elim
      (λ (kept : k (KeptElement e) ≡ true). held_of_kept k w e kept ∙ h (ap (λ o. is o (λ x. not (is_port x))) (sym (element_kept k chosen s e kept)) ∙ n))
      (λ (kept : k (KeptElement e) ≡ false). held_of_shown k w e ∙ cond-false (k (KeptElement e)) (held_of w e) (pos 0) kept)
      (cases_Bool (k (KeptElement e)))

  -- What a cut shows of a state of the sheet is a state of the cut.
  pub shown_state_of : (w : State) → StateOf s w → StateOf (cut_sheet k chosen s) (shown k w)
  shown_state_of w g =
      record {
        modes_long = length_numbered (shown_mode k) w.modes ∙ g.modes_long ∙ sym (length_numbered (cut_component k) (rows s components));
        held_long = length_numbered (shown_value k) w.held ∙ g.held_long ∙ sym (length_numbered (cut_element k) (rows s elements));
        modes_in = λ c x e. mode_fits w c x (g.modes_in c) e;
        held_in = λ e x d p. value_fits w e x (g.held_in e) d p;
        nothing_else = λ e n. nothing_shown w e (g.nothing_else e) n;
      }
