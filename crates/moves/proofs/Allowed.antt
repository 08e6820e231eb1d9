-- What an accepted sheet sets is a mode or a value that it allows.
use Rattle.std.proofs.Common.{◌≡◌, ℕ, ◌<◌, Bool, true, false, cond, not, ◌&&◌, leb, List, length, get_or, ℤ, pos, Some, None, Option, sym, refl, ap, ◌∙◌, subst, ⊎_elim}
use Rattle.std.proofs.lemmas.Bool.{and_parts, and_from, le-leb, not_from_false, not_from_true, cond-false, cases_Bool}
use Rattle.sheet.specs.declared.rows.Element.{Element}
use Rattle.sheet.specs.declared.rows.Setting.{Setting}
use Rattle.sheet.specs.declared.rows.Transition.{Transition}
use Rattle.sheet.specs.Accept.{accepted}
use Rattle.sheet.specs.Lookup.{held, component_at, element_at, transition_at, setting_at, is}
use Rattle.sheet.specs.Rules.{is_port, has_mode, event_of, condition_node}
use Rattle.sheet.specs.Sections.{Sheet, rows, components, elements}
use Rattle.sheet.specs.Typed.{component_entry, element_entry}
use Rattle.sheet.proofs.Firsts.{no_pass}
use Rattle.sheet.proofs.Lookups.{is_from}
use Rattle.sheet.proofs.Meaning.{keeps_the_rules}
use Rattle.running.specs.declared.kinds.Worth.{Worth}
use Rattle.running.specs.States.{mode_of, held_of, in_range, is_held, start_value, start_state}
use Rattle.running.specs.Steps.{takes_part}
use Rattle.running.specs.Values.{bring, number_in, nothing}
use Rattle.running.proofs.Components.{there_at, component_holds}
use Rattle.running.proofs.StatesKept.{start_state_of, element_rests, bring_inside, sets_held}
use Rattle.view.specs.Checks.{rest_held, new_value, change_by}
use Rattle.view.proofs.Starts.{made_at}
use Rattle.moves.specs.Places.{can_hold}

-- ---- the start

-- a component has its start mode
pub start_mode_allowed : (s : Sheet) (c : ℕ) → accepted s ≡ true → c < length (rows s components) → has_mode s c (mode_of (start_state s) c) ≡ true
start_mode_allowed s c a l =
    let h = component_holds s c a l in
    let here : component_at s c ≡ Some h.0 = there_at component_entry (rows s components) c l ∙ ap held h.1 in
    let m = mode_of (start_state s) c in
    is_from (component_at s c) (λ x. leb m x.modes) h.0 here (le-leb m h.0.modes ((start_state_of s).modes_in c h.0 here))

-- a rest value that is there is one of a held element
some_rest : (o : Option Element) (v : ℤ) → rest_held o ≡ Some v → (x : Element) × (o ≡ Some x) × (is_port x ≡ false) × (x.rest ≡ v)
some_rest None v e = no_pass v (sym e)
some_rest (Some x) v e =
    ⊎_elim
    (λ (p : is_port x ≡ true). no_pass v (sym (sym (ap (λ b. cond b None (Some x.rest)) p) ∙ e)))
    (λ (p : is_port x ≡ false). (x, refl, p, let q : Some x.rest ≡ Some v = sym (cond-false (is_port x) None (Some x.rest) p) ∙ e in cc))
    (cases_Bool (is_port x))

no_rest : (o : Option Element) → rest_held o ≡ None → is o (λ x. not (is_port x)) ≡ false
no_rest None e = refl
no_rest (Some x) e =
    ⊎_elim
    (λ (p : is_port x ≡ true). not_from_true (is_port x) p)
    (λ (p : is_port x ≡ false). no_pass x.rest (sym (cond-false (is_port x) None (Some x.rest) p) ∙ e))
    (cases_Bool (is_port x))

module _ (s : Sheet) (e : ℕ) where
  held_allowed : (x : Element) (v : ℤ) → element_at s e ≡ Some x → is_port x ≡ false → in_range x v ≡ true → can_hold s e v ≡ true
  held_allowed x v here p i = is_from (element_at s e) (λ y. not (is_port y) && in_range y v) x here (and_from (not (is_port x)) (in_range x v) (not_from_false (is_port x) p) i)

  -- the rest value of a held element lies in its range
  pub start_value_allowed : (v : ℤ) → rest_held (element_at s e) ≡ Some v → can_hold s e v ≡ true
  start_value_allowed v h =
      let r = some_rest (element_at s e) v h in
      let x = r.0 in
      held_allowed x v r.1 r.2 (subst (λ z. in_range x z ≡ true) r.3 (element_rests s e x r.1))

  -- and is its value at the start
  pub start_value_is : (v : ℤ) → rest_held (element_at s e) ≡ Some v → v ≡ held_of (start_state s) e
  start_value_is v h =
      let r = some_rest (element_at s e) v h in
      let x = r.0 in
      sym (made_at element_entry start_value (rows s elements) e (pos 0) x r.1 ∙ cond-false (is_port x) (pos 0) x.rest r.2 ∙ r.3)

  -- where nothing is held, nothing is set
  pub start_value_none : rest_held (element_at s e) ≡ None → is_held s e ≡ false
  start_value_none h = no_rest (element_at s e) h

-- ---- a step

-- a transition leads to a mode of its component
pub to_mode_allowed : (s : Sheet) (t : ℕ) (x : Transition) → accepted s ≡ true → transition_at s t ≡ Some x → has_mode s x.component x.to ≡ true
to_mode_allowed s t x a e =
    let p = ((keeps_the_rules s a).transitions_right.passes t x e).names_right in
    let q = and_parts (has_mode s x.component x.from) (has_mode s x.component x.to && (event_of s x.component x.event && condition_node s x.guard)) p in
    (and_parts (has_mode s x.component x.to) (event_of s x.component x.event && condition_node s x.guard) q.1).0

abbrev changed_element : Option (ℕ × ℤ) → ℕ
changed_element None = 0
changed_element (Some p) = p.0

abbrev changed_value : Option (ℕ × ℤ) → ℤ
changed_value None = pos 0
changed_value (Some p) = p.1

module _ (s : Sheet) (a : accepted s ≡ true) (t : List Worth) (i : ℕ) where
  new_value_allowed : (x : Setting) (o : Option Element) (e : ℕ) (v : ℤ) → setting_at s i ≡ Some x → element_at s x.element ≡ o → new_value t x o ≡ Some (e, v) → can_hold s e v ≡ true
  new_value_allowed x None e v h k c = no_pass (e, v) (sym c)
  new_value_allowed x (Some y) e v h k c =
      let w = bring y.lowest y.highest (number_in (get_or t x.node nothing)) in
      let f : x.element ≡ e = ap changed_element c in
      let g : w ≡ v = ap changed_value c in
      let inside = bring_inside y.lowest y.highest y.rest (number_in (get_or t x.node nothing)) (element_rests s x.element y k) in
      subst (λ e. can_hold s e v ≡ true) f (subst (λ v. can_hold s x.element v ≡ true) g (held_allowed s x.element y w k (sets_held s a i x y h k) inside))

  part_allowed : (b : Bool) (x : Setting) (e : ℕ) (v : ℤ) → setting_at s i ≡ Some x → cond b (new_value t x (element_at s x.element)) None ≡ Some (e, v) → can_hold s e v ≡ true
  part_allowed true x e v h c = new_value_allowed x (element_at s x.element) e v h refl c
  part_allowed false x e v h c = no_pass (e, v) (sym c)

  at_allowed : (o : Option Setting) (ts : List ℕ) (e : ℕ) (v : ℤ) → setting_at s i ≡ o → change_by s t ts o ≡ Some (e, v) → can_hold s e v ≡ true
  at_allowed None ts e v h c = no_pass (e, v) (sym c)
  at_allowed (Some x) ts e v h c = part_allowed (takes_part x.transition ts) x e v h c

  -- what a setting changes is a held element, and its new value lies in the range
  pub change_allowed : (ts : List ℕ) (e : ℕ) (v : ℤ) → change_by s t ts (setting_at s i) ≡ Some (e, v) → can_hold s e v ≡ true
  change_allowed ts e v c = at_allowed (setting_at s i) ts e v refl c
