-- A step is made exactly where it is possible, and a refusal is the first check that fails.
use Rattle.std.proofs.Common.{◌≡◌, ℕ, zero, suc, Bool, true, not, ◌&&◌, eqb, List, [], ◌∷◌, is_some, is_ok, Some, None, Result, sym, refl, ap, ⊎_elim}
use Rattle.std.proofs.lemmas.Bool.{false≢true, and_parts, and_from, or_cases, or_left, or_right, eqb-true, eqb-false, eq-eqb, ne_eqb, not-true, not_from_false}
use Rattle.sheet.specs.declared.rows.Connection.{Connection}
use Rattle.sheet.specs.declared.rows.Transition.{Transition}
use Rattle.sheet.specs.Lookup.{held, there, event_at, transition_at, is}
use Rattle.sheet.specs.Rules.{goes_out}
use Rattle.sheet.specs.Sections.{Row, Sheet, rows, connections}
use Rattle.sheet.specs.Tries.{Try, MeansFirst}
use Rattle.sheet.specs.Typed.{connection_entry}
use Rattle.sheet.proofs.Firsts.{no_pass, means_first}
use Rattle.sheet.proofs.Lookups.{is_cases, is_at, is_from}
use Rattle.running.specs.declared.kinds.Step.{Step}
use Rattle.running.specs.declared.kinds.Step.TheVariants.{Alone, Pair}
use Rattle.running.specs.declared.kinds.StepRefusal.{StepRefusal}
use Rattle.running.specs.declared.kinds.StepRefusal.TheVariants.{NoTransition, NoStep, OtherMode, NotConnected, GuardFalse}
use Rattle.running.specs.States.{State, mode_of}
use Rattle.running.specs.Values.{lists, truth_in, node_value}
use Rattle.running.specs.Steps.{is_there, sends, hears, well_made, in_from_mode, carries, any_carries, connected, guard_holds, step_tries, step_fault, made_state, replied, step_reply, unless_refused, step_state, Ready, Carried, Possible, alone, pair, Reached, by_step}
use Rattle.running.specs.Laws.{MadeWhenPossible, NamesTheFirstCheck}
use Rattle.running.proofs.Finds.{none_there, must_then, must_first}

-- ---- connections

-- some row carries the event, and the other way round
carrying_row : (w : State) (o i : ℕ) (rs : List Row) → any_carries w o i rs ≡ true → (k : ℕ) × (c : Connection) × (there connection_entry rs k ≡ Some c) × (carries w o i c ≡ true)
carrying_row w o i [] e = absurd (false≢true e)
carrying_row w o i (r ∷ rs) e =
    ⊎_elim
    (λ (h : is (held (connection_entry r)) (carries w o i) ≡ true). let p = is_cases (held (connection_entry r)) (carries w o i) h in (0, p.0, p.1, p.2))
    (λ (h : any_carries w o i rs ≡ true). let p = carrying_row w o i rs h in (suc p.0, p.1, p.2, p.3))
    (or_cases (is (held (connection_entry r)) (carries w o i)) (any_carries w o i rs) e)

row_carries : (w : State) (o i : ℕ) (rs : List Row) (k : ℕ) (c : Connection) → there connection_entry rs k ≡ Some c → carries w o i c ≡ true → any_carries w o i rs ≡ true
row_carries w o i [] k c e h = no_pass c (sym e)
row_carries w o i (r ∷ rs) zero c e h = or_left (is (held (connection_entry r)) (carries w o i)) (any_carries w o i rs) (is_from (held (connection_entry r)) (carries w o i) c e h)
row_carries w o i (r ∷ rs) (suc k) c e h = or_right (is (held (connection_entry r)) (carries w o i)) (any_carries w o i rs) (row_carries w o i rs k c e h)

module _ (s : Sheet) (w : State) where
  carried : (o i : ℕ) → any_carries w o i (rows s connections) ≡ true → Carried s w o i
  carried o i e =
      let p = carrying_row w o i (rows s connections) e in
      let c = p.1 in
      let a = and_parts (eqb c.out_event o) (eqb c.in_event i && lists c.modes (mode_of w c.owner)) p.3 in
      let b = and_parts (eqb c.in_event i) (lists c.modes (mode_of w c.owner)) a.1 in
      record {
        row = p.0;
        connection = c;
        stands = p.2;
        from_out = eqb-true c.out_event o a.0;
        to_in = eqb-true c.in_event i b.0;
        in_force = b.1;
      }

  carried_any : (o i : ℕ) → Carried s w o i → any_carries w o i (rows s connections) ≡ true
  carried_any o i k =
      let c = k.connection in
      row_carries w o i (rows s connections) k.row c k.stands
      (and_from (eqb c.out_event o) (eqb c.in_event i && lists c.modes (mode_of w c.owner)) (eq-eqb c.out_event o k.from_out)
      (and_from (eqb c.in_event i) (lists c.modes (mode_of w c.owner)) (eq-eqb c.in_event i k.to_in) k.in_force))

  -- ---- transitions that take part

  ready : (t : ℕ) (x : Transition) → transition_at s t ≡ Some x → in_from_mode s w t ≡ true → guard_holds s w t ≡ true → Ready s w x
  ready t x e m g =
      record {
        in_mode = eqb-true (mode_of w x.component) x.from (is_at (transition_at s t) (λ x. eqb (mode_of w x.component) x.from) x e m);
        guard = is_at (transition_at s t) (λ x. truth_in (node_value s w x.guard)) x e g;
      }

  module _ (t : ℕ) (x : Transition) (e : transition_at s t ≡ Some x) where
    found_there : is_there s t ≡ true
    found_there = ap is_some e

    ready_mode : Ready s w x → in_from_mode s w t ≡ true
    ready_mode r = is_from (transition_at s t) (λ x. eqb (mode_of w x.component) x.from) x e (eq-eqb (mode_of w x.component) x.from r.in_mode)

    ready_guard : Ready s w x → guard_holds s w t ≡ true
    ready_guard r = is_from (transition_at s t) (λ x. truth_in (node_value s w x.guard)) x e r.guard

  -- ---- one transition alone

  alone_possible : (t : ℕ) → step_fault s w (Alone t) ≡ None → Possible s w (Alone t)
  alone_possible t e =
      let p0 = must_then (is_there s t) (NoTransition t) _ e in
      let p1 = must_then (well_made s (Alone t)) (NoStep t) _ p0.1 in
      let p2 = must_then (in_from_mode s w t) (OtherMode t) _ p1.1 in
      let p3 = must_then (guard_holds s w t) (GuardFalse t) None p2.1 in
      let f = is_cases (transition_at s t) (λ x. not (is_some x.event)) p1.0 in
      alone f.1 (none_there f.0.event f.2) (ready t f.0 f.1 p2.0 p3.0)

  possible_alone : (t : ℕ) (x : Transition) → transition_at s t ≡ Some x → x.event ≡ None → Ready s w x → step_fault s w (Alone t) ≡ None
  possible_alone t x e n r =
      must_first (is_there s t) (NoTransition t) _ (found_there t x e)
      (must_first (well_made s (Alone t)) (NoStep t) _ (is_from (transition_at s t) (λ x. not (is_some x.event)) x e (ap (λ v. not (is_some v)) n))
      (must_first (in_from_mode s w t) (OtherMode t) _ (ready_mode t x e r)
      (must_first (guard_holds s w t) (GuardFalse t) None (ready_guard t x e r) refl)))

  -- ---- a pair

  module _ (t h : ℕ) where
    -- what the events and components of a pair must be
    makes_pair : Transition → Transition → Bool
    makes_pair x y = sends s x.event && (hears s y.event && not (eqb x.component y.component))

    carries_pair : Transition → Transition → Bool
    carries_pair x y = is x.event (λ o. is y.event (λ i. any_carries w o i (rows s connections)))

    pair_possible : step_fault s w (Pair t h) ≡ None → Possible s w (Pair t h)
    unfolding makes_pair carries_pair
    pair_possible e =
        let p0 = must_then (is_there s t) (NoTransition t) _ e in
        let p1 = must_then (is_there s h) (NoTransition h) _ p0.1 in
        let p2 = must_then (well_made s (Pair t h)) (NoStep t) _ p1.1 in
        let p3 = must_then (in_from_mode s w t) (OtherMode t) _ p2.1 in
        let p4 = must_then (in_from_mode s w h) (OtherMode h) _ p3.1 in
        let p5 = must_then (connected s w (Pair t h)) (NotConnected t) _ p4.1 in
        let p6 = must_then (guard_holds s w t) (GuardFalse t) _ p5.1 in
        let p7 = must_then (guard_holds s w h) (GuardFalse h) None p6.1 in
        let f = is_cases (transition_at s t) (λ x. is (transition_at s h) (makes_pair x)) p2.0 in
        let x = f.0 in
        let g = is_cases (transition_at s h) (makes_pair x) f.2 in
        let y = g.0 in
        let a = and_parts (sends s x.event) (hears s y.event && not (eqb x.component y.component)) g.2 in
        let b = and_parts (hears s y.event) (not (eqb x.component y.component)) a.1 in
        let o = is_cases x.event (λ v. is (event_at s v) goes_out) a.0 in
        let i = is_cases y.event (λ v. is (event_at s v) (λ z. not (goes_out z))) b.0 in
        let c = is_at (transition_at s h) (carries_pair x) y g.1 (is_at (transition_at s t) (λ x. is (transition_at s h) (carries_pair x)) x f.1 p5.0) in
        let d = is_at y.event (λ i. any_carries w o.0 i (rows s connections)) i.0 i.1 (is_at x.event (λ o. is y.event (λ i. any_carries w o i (rows s connections))) o.0 o.1 c) in
        pair {o = o.0} {i = i.0} {x = x} {y = y} f.1 g.1 o.1 i.1 o.2 i.2 (eqb-false x.component y.component (not-true (eqb x.component y.component) b.1))
        (ready t x f.1 p3.0 p6.0) (ready h y g.1 p4.0 p7.0) (carried o.0 i.0 d)

    module _ (x y : Transition) (e : transition_at s t ≡ Some x) (f : transition_at s h ≡ Some y) (o i : ℕ) (u : x.event ≡ Some o) (v : y.event ≡ Some i) where
      pair_made : is (event_at s o) goes_out ≡ true → is (event_at s i) (λ z. not (goes_out z)) ≡ true → (x.component ≡ y.component → ⊥) → well_made s (Pair t h) ≡ true
      unfolding makes_pair
      pair_made go come apart =
          is_from (transition_at s t) (λ x. is (transition_at s h) (makes_pair x)) x e (is_from (transition_at s h) (makes_pair x) y f
          (and_from (sends s x.event) (hears s y.event && not (eqb x.component y.component)) (is_from x.event (λ v. is (event_at s v) goes_out) o u go)
          (and_from (hears s y.event) (not (eqb x.component y.component)) (is_from y.event (λ v. is (event_at s v) (λ z. not (goes_out z))) i v come)
          (not_from_false (eqb x.component y.component) (ne_eqb x.component y.component apart)))))

      pair_connected : Carried s w o i → connected s w (Pair t h) ≡ true
      unfolding carries_pair
      pair_connected c =
          is_from (transition_at s t) (λ x. is (transition_at s h) (carries_pair x)) x e (is_from (transition_at s h) (carries_pair x) y f
          (is_from x.event (λ o. is y.event (λ i. any_carries w o i (rows s connections))) o u (is_from y.event (λ i. any_carries w o i (rows s connections)) i v (carried_any o i c))))

      possible_pair : is (event_at s o) goes_out ≡ true → is (event_at s i) (λ z. not (goes_out z)) ≡ true → (x.component ≡ y.component → ⊥) → Ready s w x → Ready s w y → Carried s w o i → step_fault s w (Pair t h) ≡ None
      possible_pair go come apart r q c =
          must_first (is_there s t) (NoTransition t) _ (found_there t x e)
          (must_first (is_there s h) (NoTransition h) _ (found_there h y f)
          (must_first (well_made s (Pair t h)) (NoStep t) _ (pair_made go come apart)
          (must_first (in_from_mode s w t) (OtherMode t) _ (ready_mode t x e r)
          (must_first (in_from_mode s w h) (OtherMode h) _ (ready_mode h y f q)
          (must_first (connected s w (Pair t h)) (NotConnected t) _ (pair_connected c)
          (must_first (guard_holds s w t) (GuardFalse t) _ (ready_guard t x e r)
          (must_first (guard_holds s w h) (GuardFalse h) None (ready_guard h y f q) refl)))))))

  -- ---- the reply

  -- no check fails exactly where the step is possible
  pub unrefused_possible : (x : Step) → step_fault s w x ≡ None → Possible s w x
  unrefused_possible (Alone t) e = alone_possible t e
  unrefused_possible (Pair t h) e = pair_possible t h e

  pub possible_unrefused : {x : Step} → Possible s w x → step_fault s w x ≡ None
  possible_unrefused (alone {t = t} {x = x} e n r) = possible_alone t x e n r
  possible_unrefused (pair {t = t} {h = h} {o = o} {i = i} {x = x} {y = y} e f u v go come apart r q c) = possible_pair t h x y e f o i u v go come apart r q c

-- a reply is made where there is no refusal
replied_made : (v : Try StepRefusal) → is_ok (replied v) ≡ true → v ≡ None
replied_made None e = refl
replied_made (Some f) e = absurd (false≢true e)

module _ (s : Sheet) (w : State) (x : Step) where
  pub made_when_possible : MadeWhenPossible s w x (step_reply s w x)
  made_when_possible = (λ e. unrefused_possible s w x (replied_made (step_fault s w x) e), λ p. ap (λ v. is_ok (replied v)) (possible_unrefused s w p))

  -- the same of any reply that is this one
  pub made_when_possible_as : (r : Result (Unit {0}) StepRefusal) → r ≡ step_reply s w x → MadeWhenPossible s w x r
  made_when_possible_as r e = rw e made_when_possible

  named_first : (v : Try StepRefusal) → MeansFirst (step_tries s w x) v → NamesTheFirstCheck s w x (replied v)
  named_first None h = h
  named_first (Some f) h = h

  pub reply_names_the_first : NamesTheFirstCheck s w x (step_reply s w x)
  reply_names_the_first = named_first (step_fault s w x) (means_first (step_tries s w x))

  -- the same of any reply that is this one
  pub reply_names_the_first_as : (r : Result (Unit {0}) StepRefusal) → r ≡ step_reply s w x → NamesTheFirstCheck s w x r
  reply_names_the_first_as r e = rw e reply_names_the_first

  -- ---- the state after a step

  -- a possible step is made
  pub possible_made : Possible s w x → step_state s w x ≡ made_state s w x
  possible_made p = ap (λ v. unless_refused v (made_state s w x) w) (possible_unrefused s w p)

  reached_unless_refused : (v : Try StepRefusal) → step_fault s w x ≡ v → Reached s w → Reached s (unless_refused v (made_state s w x) w)
  reached_unless_refused None e r = by_step r (unrefused_possible s w x e)
  reached_unless_refused (Some f) e r = r

  -- whatever is asked in a reached state leads to a reached state
  pub step_stays_reached : Reached s w → Reached s (step_state s w x)
  step_stays_reached r = reached_unless_refused (step_fault s w x) refl r
