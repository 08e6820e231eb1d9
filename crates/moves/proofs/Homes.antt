-- A store on its way to the start: modes and values set place by place.
use Rattle.std.proofs.Common.{◌≡◌, ℕ, ◌+◌, ◌<◌, ◌≤◌, true, false, length, ℤ, pos, Some, None, Option, sym, refl, ap, ◌∙◌, subst, arith}
use Rattle.std.proofs.lemmas.List.{length-map}
use Rattle.sheet.specs.Accept.{accepted}
use Rattle.sheet.specs.Lookup.{element_at}
use Rattle.sheet.specs.Rules.{has_mode}
use Rattle.sheet.specs.Sections.{Sheet, rows, components, elements}
use Rattle.sheet.specs.Typed.{component_entry, element_entry}
use Rattle.running.specs.States.{State, mode_of, held_of, is_held, with_mode, with_value, start_mode, start_value, start_state}
use Rattle.running.proofs.StatesKept.{start_state_of}
use Rattle.view.specs.Checks.{rest_held}
use Rattle.moves.specs.Places.{Placed, with_some_value, at_start_modes, at_start_values}
use Rattle.moves.proofs.Allowed.{start_mode_allowed, start_value_is, start_value_none}
use Rattle.moves.proofs.Refills.{Refilled, refilled_none, refilled_more, refilled_kept, refilled_all}

-- the first i modes are those of the start; nothing else has changed
pub record ModesReset (s r : Sheet) (was w : State) (n i : ℕ) : Type 0 where
  pub filled : Refilled w.modes (start_state s).modes was.modes 0 n i
  pub values_kept : w.held ≡ was.held
  pub rows_kept : r ≡ s

-- the first i values are those of the start; nothing else has changed
pub record ValuesReset (s r : Sheet) (was w : State) (n i : ℕ) : Type 0 where
  pub filled : Refilled w.held (start_state s).held was.held (pos 0) n i
  pub modes_kept : w.modes ≡ was.modes
  pub rows_kept : r ≡ s

module _ (s : Sheet) (was : State) (n : ℕ) where
  pub no_modes_reset : Placed s was → n ≡ length (rows s components) → ModesReset s s was was n 0
  no_modes_reset p e = record { filled = refilled_none was.modes (start_state s).modes 0 n (p.modes_long ∙ sym e) (length-map (rows s components) (λ r. start_mode (component_entry r)) ∙ sym e); values_kept = refl; rows_kept = refl }

  pub no_values_reset : Placed s was → n ≡ length (rows s elements) → ValuesReset s s was was n 0
  no_values_reset p e = record { filled = refilled_none was.held (start_state s).held (pos 0) n (p.held_long ∙ sym e) (length-map (rows s elements) (λ r. start_value (element_entry r)) ∙ sym e); modes_kept = refl; rows_kept = refl }

  module _ (r : Sheet) (w : State) (i : ℕ) where
    -- the start mode can be set
    pub mode_can_be_set : (m : ℕ) → ModesReset s r was w n i → accepted s ≡ true → n ≡ length (rows s components) → i < n → m ≡ mode_of (start_state r) i → has_mode r i m ≡ true
    mode_can_be_set m f a e l is =
        let k = f.rows_kept in
        ap (has_mode r i) is ∙ ap (λ r. has_mode r i (mode_of (start_state r) i)) k ∙ start_mode_allowed s i a (omega (arith, e, l))

    pub one_mode_more : (r' : Sheet) (w' : State) (m : ℕ) → ModesReset s r was w n i → i < n → m ≡ mode_of (start_state r) i → r' ≡ r → w' ≡ with_mode w i m → ModesReset s r' was w' n (i + 1)
    one_mode_more r' w' m f l is e g =
        let more = refilled_more w.modes (start_state s).modes was.modes 0 n i f.filled m l (is ∙ ap (λ r. mode_of (start_state r) i) f.rows_kept) in
        record {
          filled = subst (λ (v : State). Refilled v.modes (start_state s).modes was.modes 0 n (i + 1)) (sym g) more;
          values_kept = ap (λ (v : State). v.held) g ∙ f.values_kept;
          rows_kept = e ∙ f.rows_kept;
        }

    pub all_modes_reset : ModesReset s r was w n i → n ≤ i → w ≡ at_start_modes s was
    all_modes_reset f l =
        let modes = refilled_all w.modes (start_state s).modes was.modes 0 n i f.filled l in
        (λ j. record { modes = modes j; held = f.values_kept j })

    -- a held element is given its rest value
    one_value_more : (r' : Sheet) (w' : State) (v : ℤ) → ValuesReset s r was w n i → i < n → Some v ≡ rest_held (element_at r i) → r' ≡ r → w' ≡ with_value w i v → ValuesReset s r' was w' n (i + 1)
    one_value_more r' w' v f l is e g =
        let value = start_value_is r i v (sym is) ∙ ap (λ r. held_of (start_state r) i) f.rows_kept in
        let more = refilled_more w.held (start_state s).held was.held (pos 0) n i f.filled v l value in
        record {
          filled = subst (λ (v : State). Refilled v.held (start_state s).held was.held (pos 0) n (i + 1)) (sym g) more;
          modes_kept = ap (λ (v : State). v.modes) g ∙ f.modes_kept;
          rows_kept = e ∙ f.rows_kept;
        }

    -- an element that is not held stays at 0
    no_value_more : Placed s was → ValuesReset s r was w n i → ◌≡◌ {A = Option ℤ} None (rest_held (element_at r i)) → ValuesReset s r was w n (i + 1)
    no_value_more p f is =
        let not_held : is_held s i ≡ false = ap (λ r. is_held r i) (sym f.rows_kept) ∙ start_value_none r i (sym is) in
        record {
          filled = refilled_kept w.held (start_state s).held was.held (pos 0) n i f.filled (p.nothing_else i not_held ∙ sym ((start_state_of s).nothing_else i not_held));
          modes_kept = f.modes_kept;
          rows_kept = f.rows_kept;
        }

    pub one_element_more : (r' : Sheet) (w' : State) (o : Option ℤ) → Placed s was → ValuesReset s r was w n i → i < n → o ≡ rest_held (element_at r i) → r' ≡ r → w' ≡ with_some_value w i o → ValuesReset s r' was w' n (i + 1)
    one_element_more r' w' None p f l is e g = subst (λ (v : State). ValuesReset s r' was v n (i + 1)) (sym g) (subst (λ (t : Sheet). ValuesReset s t was w n (i + 1)) (sym e) (no_value_more p f is))
    one_element_more r' w' (Some v) p f l is e g = one_value_more r' w' v f l is e g

    pub all_values_reset : ValuesReset s r was w n i → n ≤ i → w ≡ at_start_values s was
    all_values_reset f l =
        let values = refilled_all w.held (start_state s).held was.held (pos 0) n i f.filled l in
        (λ j. record { modes = f.modes_kept j; held = values j })

-- with all modes reset, there is still a place for everything
pub still_placed : (s r : Sheet) (was w : State) → Placed s was → r ≡ s → w ≡ at_start_modes s was → Placed r w
still_placed s r was w p e f =
    subst (λ (t : Sheet). Placed t w) (sym e) (subst (λ (v : State). Placed s v) (sym f)
    (record { modes_long = length-map (rows s components) (λ r. start_mode (component_entry r)); held_long = p.held_long; nothing_else = p.nothing_else }))
