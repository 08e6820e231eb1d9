-- What a rig tells of its state is the state.
use Rattle.std.proofs.Common.{◌≡◌, ℕ, ◌<◌, ◌≤◌, Bool, true, false, not, [], length, get_or, ℤ, pos, Some, None, Option, unwrap_or, sym, refl, ap, ◌∙◌, ⊎_elim, arith, Err}
use Rattle.std.proofs.lemmas.List.{get_or_past}
use Rattle.std.proofs.lemmas.Option.{slice_get-get_or}
use Rattle.std.proofs.lemmas.Bool.{cases_lt, not-true}
use Rattle.std.specs.Option.{option_map}
use Rattle.sheet.specs.Entry.{malformed}
use Rattle.sheet.specs.declared.rows.Component.{Component}
use Rattle.sheet.specs.Accept.{accepted}
use Rattle.sheet.specs.Lookup.{held, read_by, component_at, element_at}
use Rattle.sheet.specs.Rules.{is_port}
use Rattle.sheet.specs.Sections.{Sheet, rows, components}
use Rattle.sheet.specs.Typed.{holds_if, component_entry}
use Rattle.sheet.proofs.Firsts.{no_pass}
use Rattle.sheet.proofs.Lookups.{is_cases}
use Rattle.sheet.proofs.Meaning.{keeps_the_rules}
use Rattle.running.specs.States.{State, mode_of, held_of, is_held, StateOf}
use Rattle.running.specs.Steps.{mode_at, value_at}
use Rattle.running.specs.Values.{value_of}
use Rattle.running.proofs.Elements.{values_by_laws}

-- a row of the components holds one or is faulty
holds_or_faulty : (b : Bool) (x : Component) → held (holds_if b x) ≡ None → holds_if b x ≡ Err malformed
holds_or_faulty true x e = no_pass x e
holds_or_faulty false x e = refl

module _ (s : Sheet) (w : State) (a : accepted s ≡ true) (o : StateOf s w) where
  -- where no component is, the mode is 0
  no_mode : (c : ℕ) → component_at s c ≡ None → mode_of w c ≡ 0
  no_mode c e =
      ⊎_elim
      (λ (l : c < length (rows s components)).
      let none : held (component_entry (get_or (rows s components) c [])) ≡ None = sym (ap (read_by component_entry) (slice_get-get_or (rows s components) c [] l)) ∙ e in
      absurd ((keeps_the_rules s a).components_right.not_faulty c l (holds_or_faulty _ _ none)))
      (λ (l : length (rows s components) ≤ c). get_or_past w.modes c 0 (omega (arith, o.modes_long)))
      (cases_lt c (length (rows s components)))

  -- the mode that is told, or 0
  pub mode_told : (c : ℕ) (r : Option ℕ) → r ≡ mode_at s w c → unwrap_or r 0 ≡ mode_of w c
  mode_told c r e = ap (λ r. unwrap_or r 0) e ∙ by (component_at s c) refl
    where
      by : (k : Option Component) → component_at s c ≡ k → unwrap_or (option_map (λ x. mode_of w c) k) 0 ≡ mode_of w c
      by None h = sym (no_mode c h)
      by (Some x) h = refl

  -- the value of a held element that is told
  pub value_told : (e : ℕ) (r : Option ℤ) → r ≡ value_at s w e → is_held s e ≡ true → unwrap_or r (pos 0) ≡ held_of w e
  value_told e r h p =
      let q = is_cases (element_at s e) (λ x. not (is_port x)) p in
      ap (λ r. unwrap_or r (pos 0)) (h ∙ ap (option_map (λ x. value_of s w e)) q.1) ∙ (values_by_laws s w a).1.held_value e q.0 q.1 (not-true (is_port q.0) q.2)
