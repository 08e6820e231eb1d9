-- The start state of an accepted sheet is one of its states, and steps lead from states to states.
use Rattle.std.proofs.Common.{◌≡◌, ℕ, zero, suc, ◌<◌, ◌≤◌, Bool, true, false, cond, not, ◌&&◌, eqb, leb, ◌⊎◌, List, [], ◌∷◌, map, length, get_or, set, ℤ, pos, Some, None, Option, sym, refl, ap, ◌∙◌, subst, inl, inr, ⊎_elim, arith, Err, Ok}
use lib.Signed.{le_z}
use Rattle.std.proofs.lemmas.List.{length-set, length-map, get_or-set_same, get_or-set_other, set_past}
use Rattle.std.proofs.lemmas.Int.{ints}
use Rattle.std.proofs.lemmas.Bool.{true≢false, and_parts, and_from, leb-true, cases_lt, cases_eq, not-true, not_from_false, cond-false}
use Rattle.sheet.specs.Entry.{Entry, malformed}
use Rattle.sheet.specs.declared.rows.Component.{Component}
use Rattle.sheet.specs.declared.rows.Element.{Element}
use Rattle.sheet.specs.declared.rows.Kind.{Kind}
use Rattle.sheet.specs.declared.rows.Kind.TheVariants.{Held, Port}
use Rattle.sheet.specs.declared.rows.Setting.{Setting}
use Rattle.sheet.specs.declared.rows.Transition.{Transition}
use Rattle.sheet.specs.Accept.{accepted}
use Rattle.sheet.specs.Lookup.{held, there, component_at, element_at, transition_at, is}
use Rattle.sheet.specs.Rules.{is_port, has_mode, event_of, condition_node, value_node, settable}
use Rattle.sheet.specs.Sections.{Row, Sheet, rows, components, elements, settings}
use Rattle.sheet.specs.Tries.{Try}
use Rattle.sheet.specs.Typed.{at, number, zeros, holds_if, blank_or, component_entry, element_of, element_by_kind, element_entry, setting_entry}
use Rattle.sheet.proofs.Firsts.{no_pass}
use Rattle.sheet.proofs.Meaning.{there_inside, keeps_the_rules}
use Rattle.sheet.proofs.Lookups.{is_cases, is_at}
use Rattle.running.specs.declared.kinds.Step.{Step}
use Rattle.running.specs.declared.kinds.StepRefusal.{StepRefusal}
use Rattle.running.specs.States.{State, mode_of, held_of, in_range, is_held, StateOf, start_mode, start_value, start_state}
use Rattle.running.specs.Values.{bring, number_in, node_value}
use Rattle.running.specs.Steps.{moved_by, moved, takes_part, parts, set_value, set_by, settled, made_state, step_fault, unless_refused, at_start, by_step}
use Rattle.running.specs.Laws.{StartIsAState, StepsKeepStates, ReachedAreStates}
use Rattle.running.proofs.Finds.{same_found}

-- ---- what a row holds

pub held_if : {X : Type 0} (b : Bool) (y x : X) → held (holds_if b y) ≡ Some x → (b ≡ true) × (y ≡ x)
held_if true y x e = (refl, cc)
held_if false y x e = no_pass x (sym e)

pub held_unless_blank : {X : Type 0} (b : Bool) (v : Entry X) (x : X) → held (blank_or b v) ≡ Some x → held v ≡ Some x
held_unless_blank true v x e = no_pass x (sym e)
held_unless_blank false v x e = e

pub held_either : {X : Type 0} (b : Bool) (u v : Entry X) (x : X) → held (cond b u v) ≡ Some x → (held u ≡ Some x) ⊎ (held v ≡ Some x)
held_either true u v x e = inl e
held_either false u v x e = inr e

-- the start mode of a component is one of its modes
pub component_starts : (r : Row) (x : Component) → held (component_entry r) ≡ Some x → x.start ≤ x.modes
component_starts r x e =
    let p = held_if (leb 1 (at r 0) && (leb (at r 0) 15 && leb (at r 1) (at r 0))) (record { modes = at r 0; start = at r 1 }) x e in
    let q = and_parts (leb 1 (at r 0)) (leb (at r 0) 15 && leb (at r 1) (at r 0)) p.0 in
    subst (λ (y : Component). y.start ≤ y.modes) p.1 (leb-true (at r 1) (at r 0) (and_parts (leb (at r 0) 15) (leb (at r 1) (at r 0)) q.1).1)

-- the rest value of an element lies in its range
element_of_rests : (k : Kind) (c : ℕ) (l h v : ℤ) (x : Element) → held (element_of k c l h v) ≡ Some x → in_range x x.rest ≡ true
element_of_rests k c l h v x e =
    let p = held_if (le_z l v && le_z v h) (record { kind = k; component = c; lowest = l; highest = h; rest = v }) x e in
    subst (λ (y : Element). in_range y y.rest ≡ true) p.1 p.0

by_kind_rests : (k c : ℕ) (l h v : ℤ) (x : Element) → held (element_by_kind k c l h v) ≡ Some x → in_range x x.rest ≡ true
by_kind_rests k c l h v x e =
    ⊎_elim
    (λ (p : held (element_of Held c l h v) ≡ Some x). element_of_rests Held c l h v x p)
    (λ (p : held (cond (eqb k 2) (element_of Port c l h v) (Err malformed)) ≡ Some x).
    ⊎_elim
    (λ (q : held (element_of Port c l h v) ≡ Some x). element_of_rests Port c l h v x q)
    (λ (q : held {X = Element} (Err malformed) ≡ Some x). no_pass x (sym q))
    (held_either (eqb k 2) (element_of Port c l h v) (Err malformed) x p))
    (held_either (eqb k 1) (element_of Held c l h v) (cond (eqb k 2) (element_of Port c l h v) (Err malformed)) x e)

pub element_rests : (s : Sheet) (e : ℕ) (x : Element) → element_at s e ≡ Some x → in_range x x.rest ≡ true
element_rests s e x h =
    let r = get_or (rows s elements) e [] in
    by_kind_rests (at r 0) (at r 1) (number (at r 2) (at r 3)) (number (at r 4) (at r 5)) (number (at r 6) (at r 7)) x
    (held_unless_blank (zeros 8 r) (element_by_kind (at r 0) (at r 1) (number (at r 2) (at r 3)) (number (at r 4) (at r 5)) (number (at r 6) (at r 7))) x
    (there_inside element_entry (rows s elements) e x h).1)

-- ---- the start state

-- a list made from the rows of a section, by what each row holds
mapped_there : {X Y : Type 0} (entry : Row → Entry X) (f : Entry X → Y) (g : Option X → Y) → ((v : Entry X) → f v ≡ g (held v)) → (rs : List Row) (i : ℕ) → get_or (map (λ r. f (entry r)) rs) i (g None) ≡ g (there entry rs i)
mapped_there entry f g same [] i = refl
mapped_there entry f g same (r ∷ rs) zero = same (entry r)
mapped_there entry f g same (r ∷ rs) (suc i) = mapped_there entry f g same rs i

abbrev mode_at_start : Option Component → ℕ
mode_at_start None = 0
mode_at_start (Some x) = x.start

abbrev value_at_start : Option Element → ℤ
value_at_start None = pos 0
value_at_start (Some x) = cond (is_port x) (pos 0) x.rest

start_mode_held : (v : Entry Component) → start_mode v ≡ mode_at_start (held v)
start_mode_held (Ok None) = refl
start_mode_held (Err _) = refl
start_mode_held (Ok (Some x)) = refl

start_value_held : (v : Entry Element) → start_value v ≡ value_at_start (held v)
start_value_held (Ok None) = refl
start_value_held (Err _) = refl
start_value_held (Ok (Some x)) = refl

unheld_zero : (o : Option Element) → is o (λ x. not (is_port x)) ≡ false → value_at_start o ≡ pos 0
unheld_zero None e = refl
unheld_zero (Some x) e = port_zero (is_port x) e
  where
    port_zero : (b : Bool) → not b ≡ false → cond b (pos 0) x.rest ≡ pos 0
    port_zero true e = refl
    port_zero false e = absurd (true≢false e)

-- acceptance is not needed for it
pub start_state_of : (s : Sheet) → StateOf s (start_state s)
start_state_of s =
    let mode : (c : ℕ) → mode_of (start_state s) c ≡ mode_at_start (component_at s c) = mapped_there component_entry start_mode mode_at_start start_mode_held (rows s components) in
    let value : (e : ℕ) → held_of (start_state s) e ≡ value_at_start (element_at s e) = mapped_there element_entry start_value value_at_start start_value_held (rows s elements) in
    record {
      modes_long = length-map (rows s components) (λ r. start_mode (component_entry r));
      held_long = length-map (rows s elements) (λ r. start_value (element_entry r));
      modes_in = λ c x h. subst (λ m. m ≤ x.modes) (sym (mode c ∙ ap mode_at_start h)) (component_starts (get_or (rows s components) c []) x (there_inside component_entry (rows s components) c x h).1);
      held_in = λ e x h p. ap (in_range x) (value e ∙ ap value_at_start h ∙ cond-false (is_port x) (pos 0) x.rest p) ∙ element_rests s e x h;
      nothing_else = λ e h. value e ∙ unheld_zero (element_at s e) h;
    }

pub start_is_a_state : StartIsAState
start_is_a_state s a = start_state_of s

-- ---- a step

-- a fact of each place stays where it holds of what is written
set_keeps : {X : Type 0} (P : ℕ → X → Type 0) (d : X) (xs : List X) (i : ℕ) (v : X) → ((j : ℕ) → P j (get_or xs j d)) → P i v → (j : ℕ) → P j (get_or (set xs i v) j d)
set_keeps P d xs i v h p j =
    ⊎_elim
    (λ (e : j ≡ i).
    ⊎_elim
    (λ (l : i < length xs). rw (e, get_or-set_same xs i v d l) p)
    (λ (l : length xs ≤ i). rw (set_past xs i v l) (h j))
    (cases_lt i (length xs)))
    (λ (n : j ≡ i → ⊥). rw (get_or-set_other xs i j v d n) (h j))
    (cases_eq j i)

pub bring_inside : (low high rest v : ℤ) → (le_z low rest && le_z rest high) ≡ true → (le_z low (bring low high v) && le_z (bring low high v) high) ≡ true
bring_inside low high rest v h =
    let p = and_parts (le_z low rest) (le_z rest high) h in
    and_from (le_z low (bring low high v)) (le_z (bring low high v) high) (above p.0 p.1) (below p.0 p.1)
  where
    above : le_z low rest ≡ true → le_z rest high ≡ true → le_z low (bring low high v) ≡ true
    above a b = grind (arith, ints)

    below : le_z low rest ≡ true → le_z rest high ≡ true → le_z (bring low high v) high ≡ true
    below a b = grind (arith, ints)

cond_long : {X : Type 0} (b : Bool) (us vs : List X) → length us ≡ length vs → length (cond b us vs) ≡ length vs
cond_long true us vs e = e
cond_long false us vs e = refl

module _ (s : Sheet) where
  -- m can be the mode of component c
  ModeFits : ℕ → ℕ → Type 0
  ModeFits c m = (x : Component) → component_at s c ≡ Some x → m ≤ x.modes

  -- v can stand for element e in a state
  record ValueFits (e : ℕ) (v : ℤ) : Type 0 where
    inside : (x : Element) → element_at s e ≡ Some x → is_port x ≡ false → in_range x v ≡ true
    nothing : is_held s e ≡ false → v ≡ pos 0

  -- ---- the modes

  moved_by_long : (o : Option Transition) (ms : List ℕ) → length (moved_by o ms) ≡ length ms
  moved_by_long None ms = refl
  moved_by_long (Some x) ms = length-set ms x.component x.to

  moved_long : (ts ms : List ℕ) → length (moved s ts ms) ≡ length ms
  moved_long [] ms = refl
  moved_long (t ∷ ts) ms = moved_long ts (moved_by (transition_at s t) ms) ∙ moved_by_long (transition_at s t) ms

  moved_by_fits : (o : Option Transition) (ms : List ℕ) → ((x : Transition) → o ≡ Some x → ModeFits x.component x.to) → ((c : ℕ) → ModeFits c (get_or ms c 0)) → (c : ℕ) → ModeFits c (get_or (moved_by o ms) c 0)
  moved_by_fits None ms f h = h
  moved_by_fits (Some x) ms f h = set_keeps ModeFits 0 ms x.component x.to h (f x refl)

  moved_fits : (ts ms : List ℕ) → ((t : ℕ) (x : Transition) → transition_at s t ≡ Some x → ModeFits x.component x.to) → ((c : ℕ) → ModeFits c (get_or ms c 0)) → (c : ℕ) → ModeFits c (get_or (moved s ts ms) c 0)
  moved_fits [] ms f h = h
  moved_fits (t ∷ ts) ms f h = moved_fits ts (moved_by (transition_at s t) ms) f (moved_by_fits (transition_at s t) ms (f t) h)

  -- ---- the held values

  AllFit : List ℤ → Type 0
  AllFit vs = (e : ℕ) → ValueFits e (get_or vs e (pos 0))

  cond_fits : (b : Bool) (us vs : List ℤ) → AllFit us → AllFit vs → AllFit (cond b us vs)
  cond_fits true us vs h k = h
  cond_fits false us vs h k = k

  module _ (w : State) where
    -- what the setting gives can stand for its element
    SettingFits : Setting → Type 0
    SettingFits x = (e : Element) → element_at s x.element ≡ Some e → ValueFits x.element (bring e.lowest e.highest (number_in (node_value s w x.node)))

    set_value_long : (x : Setting) (o : Option Element) (vs : List ℤ) → length (set_value s w x o vs) ≡ length vs
    set_value_long x None vs = refl
    set_value_long x (Some e) vs = length-set vs x.element (bring e.lowest e.highest (number_in (node_value s w x.node)))

    set_value_fits : (x : Setting) (o : Option Element) (vs : List ℤ) → element_at s x.element ≡ o → SettingFits x → AllFit vs → AllFit (set_value s w x o vs)
    unfolding SettingFits AllFit
    set_value_fits x None vs e f h = h
    set_value_fits x (Some y) vs e f h = set_keeps ValueFits (pos 0) vs x.element (bring y.lowest y.highest (number_in (node_value s w x.node))) h (f y e)

    module _ (ts : List ℕ) where
      set_by_long : (o : Option Setting) (vs : List ℤ) → length (set_by s w ts o vs) ≡ length vs
      set_by_long None vs = refl
      set_by_long (Some x) vs = cond_long (takes_part x.transition ts) (set_value s w x (element_at s x.element) vs) vs (set_value_long x (element_at s x.element) vs)

      settled_long : (rs : List Row) (vs : List ℤ) → length (settled s w ts rs vs) ≡ length vs
      settled_long [] vs = refl
      settled_long (r ∷ rs) vs = settled_long rs (set_by s w ts (held (setting_entry r)) vs) ∙ set_by_long (held (setting_entry r)) vs

      set_by_fits : (o : Option Setting) (vs : List ℤ) → ((x : Setting) → o ≡ Some x → SettingFits x) → AllFit vs → AllFit (set_by s w ts o vs)
      set_by_fits None vs f h = h
      set_by_fits (Some x) vs f h = cond_fits (takes_part x.transition ts) (set_value s w x (element_at s x.element) vs) vs (set_value_fits x (element_at s x.element) vs refl (f x refl) h) h

      settled_fits : (rs : List Row) (vs : List ℤ) → ((i : ℕ) (x : Setting) → there setting_entry rs i ≡ Some x → SettingFits x) → AllFit vs → AllFit (settled s w ts rs vs)
      settled_fits [] vs f h = h
      settled_fits (r ∷ rs) vs f h = settled_fits rs (set_by s w ts (held (setting_entry r)) vs) (λ i. f (suc i)) (set_by_fits (held (setting_entry r)) vs (f 0) h)

  -- ---- acceptance

  module _ (a : accepted s ≡ true) where
    -- a transition leads to a mode of its component
    to_fits : (t : ℕ) (x : Transition) → transition_at s t ≡ Some x → ModeFits x.component x.to
    unfolding ModeFits
    to_fits t x e c h =
        let p = ((keeps_the_rules s a).transitions_right.passes t x e).names_right in
        let q = and_parts (has_mode s x.component x.from) (has_mode s x.component x.to && (event_of s x.component x.event && condition_node s x.guard)) p in
        let m = and_parts (has_mode s x.component x.to) (event_of s x.component x.event && condition_node s x.guard) q.1 in
        leb-true x.to c.modes (is_at (component_at s x.component) (λ y. leb x.to y.modes) c h m.0)

    -- the element of a setting is held
    pub sets_held : (i : ℕ) (x : Setting) (e : Element) → there setting_entry (rows s settings) i ≡ Some x → element_at s x.element ≡ Some e → is_port e ≡ false
    sets_held i x e h k =
        let p = ((keeps_the_rules s a).settings_right.passes i x h).names_right in
        let q = and_parts (settable (transition_at s x.transition) (element_at s x.element)) (value_node s x.node) p in
        let t = is_cases (transition_at s x.transition) (λ t. is (element_at s x.element) (λ y. not (is_port y) && eqb y.component t.component)) q.0 in
        let y = is_at (element_at s x.element) (λ y. not (is_port y) && eqb y.component t.0.component) e k t.2 in
        not-true (is_port e) (and_parts (not (is_port e)) (eqb e.component t.0.component) y).0

    setting_fits : (w : State) (i : ℕ) (x : Setting) → there setting_entry (rows s settings) i ≡ Some x → SettingFits w x
    unfolding SettingFits
    setting_fits w i x h e k =
        let held : is_held s x.element ≡ true = ap (λ o. is o (λ y. not (is_port y))) k ∙ not_from_false (is_port e) (sets_held i x e h k) in
        let v = number_in (node_value s w x.node) in
        record {
          inside = λ y f p. subst (λ (z : Element). in_range z (bring e.lowest e.highest v) ≡ true) (same_found (element_at s x.element) e y k f) (bring_inside e.lowest e.highest e.rest v (element_rests s x.element e k));
          nothing = λ n. absurd (true≢false (sym held ∙ n));
        }

    -- any step leads from a state to a state
    pub made_is_a_state : (w : State) (x : Step) → StateOf s w → StateOf s (made_state s w x)
    unfolding ModeFits AllFit
    made_is_a_state w x g =
        let values = settled_fits w (parts x) (rows s settings) w.held (setting_fits w) (λ e. record { inside = g.held_in e; nothing = g.nothing_else e }) in
        record {
          modes_long = moved_long (parts x) w.modes ∙ g.modes_long;
          held_long = settled_long w (parts x) (rows s settings) w.held ∙ g.held_long;
          modes_in = moved_fits (parts x) w.modes to_fits g.modes_in;
          held_in = λ e. (values e).inside;
          nothing_else = λ e. (values e).nothing;
        }

unless_refused_state : (s : Sheet) (v : Try StepRefusal) (y w : State) → StateOf s y → StateOf s w → StateOf s (unless_refused v y w)
unless_refused_state s None y w p q = p
unless_refused_state s (Some f) y w p q = q

pub step_keeps_states : StepsKeepStates
step_keeps_states s w x a g = unless_refused_state s (step_fault s w x) (made_state s w x) w (made_is_a_state s a w x g) g

pub reached_is_a_state : ReachedAreStates
reached_is_a_state s w a at_start = start_state_of s
reached_is_a_state s w a (by_step {w = v} {x = x} r p) = made_is_a_state s a v x (reached_is_a_state s v a r)
