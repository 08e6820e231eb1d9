-- A step that names only kept transitions gets the same reply on a sheet and on its cut.
use Rattle.std.proofs.Common.{◌≡◌, ℕ, suc, ◌+◌, Bool, true, false, cond, not, ◌&&◌, ◌||◌, eqb, List, [], ◌∷◌, is_some, Some, None, Option, sym, refl, ap, ◌∙◌, ⊎_elim}
use Rattle.std.proofs.lemmas.Bool.{and_parts, and_left, and_from, or_left, eqb-true, cases_Bool, cond-true}
use Rattle.sheet.specs.declared.rows.Connection.{Connection}
use Rattle.sheet.specs.declared.rows.Transition.{Transition}
use Rattle.sheet.specs.Accept.{accepted}
use Rattle.sheet.specs.Lookup.{held, there, transition_at, is}
use Rattle.sheet.specs.Rules.{goes_out}
use Rattle.sheet.specs.Sections.{Row, Sheet, rows, connections}
use Rattle.sheet.specs.Tries.{must}
use Rattle.sheet.specs.Typed.{connection_entry}
use Rattle.running.specs.declared.kinds.Step.{Step}
use Rattle.running.specs.declared.kinds.Step.TheVariants.{Alone, Pair}
use Rattle.running.specs.declared.kinds.StepRefusal.{StepRefusal}
use Rattle.running.specs.declared.kinds.StepRefusal.TheVariants.{NoTransition, OtherMode, GuardFalse}
use Rattle.running.specs.States.{State, mode_of}
use Rattle.running.specs.Values.{lists, truth_in, node_value}
use Rattle.running.specs.Steps.{parts, is_there, sends, hears, well_made, in_from_mode, carries, any_carries, connected, guard_holds, each_part, step_tries}
use Rattle.cutting.specs.declared.kinds.Thing.TheVariants.{Event as KeptEvent}
use Rattle.cutting.specs.Agreement.{IsKeptTransition, Every, KeptStep}
use Rattle.cutting.specs.CutSheet.{shown, keeps_events, cut_connection, cut_sheet}
use Rattle.cutting.specs.Kept.{Kept, Chosen, Closed}
use Rattle.cutting.specs.Numbered.{numbered_from, numbered}
use Rattle.cutting.proofs.CutRows.{passing, with_to, held_stays}
use Rattle.cutting.proofs.ElementsAgree.{node_value_shown}
use Rattle.cutting.proofs.KeptRows.{event_kept, event_of_kept, KeptBelow, kept_below}
use Rattle.cutting.proofs.Shown.{in_kept_mode, lists_kept_modes}
use Rattle.cutting.proofs.UsedNodes.{guard_rests_on_kept}

pub every_map : {X : Type 0} {P Q : X → Type 0} → ((x : X) → P x → Q x) → (xs : List X) → Every P xs → Every Q xs
every_map f [] h = tt
every_map f (x ∷ xs) h = (f x h.0, every_map f xs h.1)

each_part_same : (p q : ℕ → Bool) (fault : ℕ → StepRefusal) (ts : List ℕ) → Every (λ t. p t ≡ q t) ts → each_part p fault ts ≡ each_part q fault ts
each_part_same p q fault [] h = refl
each_part_same p q fault (t ∷ ts) h = ap (λ b. must b (fault t) ∷ each_part p fault ts) h.0 ∙ ap (λ us. must (q t) (fault t) ∷ us) (each_part_same p q fault ts h.1)

-- ---- connections between two kept events

module _ (k : Kept) (v w : State) (o i : ℕ) (out_kept : k (KeptEvent o) ≡ true) (in_kept : k (KeptEvent i) ≡ true) where
  -- the connection lists its owner's mode in both states or in neither
  abbrev ListsBoth : Connection → Type 0
  ListsBoth c = c.out_event ≡ o → lists c.modes (mode_of v c.owner) ≡ lists c.modes (mode_of w c.owner)

  carries_same : (c : Connection) → ListsBoth c → carries v o i c ≡ carries w o i c
  carries_same c both =
      ⊎_elim
      (λ (h : eqb c.out_event o ≡ true). ap (λ b. eqb c.out_event o && (eqb c.in_event i && b)) (both (eqb-true c.out_event o h)))
      (λ (h : eqb c.out_event o ≡ false). and_left (eqb c.out_event o) (eqb c.in_event i && lists c.modes (mode_of v c.owner)) h ∙ sym (and_left (eqb c.out_event o) (eqb c.in_event i && lists c.modes (mode_of w c.owner)) h))
      (cases_Bool (eqb c.out_event o))

  -- what carries the one event to the other stays
  carrying_stays : (c : Connection) → carries w o i c ≡ true → keeps_events k c ≡ true
  carrying_stays c h =
      let p = and_parts (eqb c.out_event o) (eqb c.in_event i && lists c.modes (mode_of w c.owner)) h in
      let q = and_parts (eqb c.in_event i) (lists c.modes (mode_of w c.owner)) p.1 in
      and_from (k (KeptEvent c.out_event)) (k (KeptEvent c.in_event))
      (ap (λ e. k (KeptEvent e)) (eqb-true c.out_event o p.0) ∙ out_kept)
      (ap (λ e. k (KeptEvent e)) (eqb-true c.in_event i q.0) ∙ in_kept)

  stays_or_carries_nothing : (c : Connection) (b : Bool) → carries w o i c ≡ b → b ≡ is (cond (keeps_events k c) (Some c) None) (carries w o i)
  stays_or_carries_nothing c true e = sym (ap (λ x. is x (carries w o i)) (cond-true (keeps_events k c) (Some c) None (carrying_stays c e)) ∙ e)
  stays_or_carries_nothing c false e = nothing_carried (keeps_events k c)
    where
      nothing_carried : (b : Bool) → false ≡ is (cond b (Some c) None) (carries w o i)
      nothing_carried true = sym e
      nothing_carried false = refl

  row_carries_same : (x : Option Connection) → ((c : Connection) → x ≡ Some c → ListsBoth c) → is x (carries v o i) ≡ is (passing (keeps_events k) x) (carries w o i)
  row_carries_same None both = refl
  row_carries_same (Some c) both = carries_same c (both c refl) ∙ stays_or_carries_nothing c (carries w o i c) refl

  any_carries_from : (n : ℕ) (rs : List Row) → ((j : ℕ) (c : Connection) → there connection_entry rs j ≡ Some c → ListsBoth c) → any_carries v o i rs ≡ any_carries w o i (numbered_from n (cut_connection k) rs)
  any_carries_from n [] both = refl
  any_carries_from n (r ∷ rs) both =
      ap (λ b. b || any_carries v o i rs) (row_carries_same (held (connection_entry r)) (both 0) ∙ ap (λ x. is x (carries w o i)) (sym (held_stays connections connection_entry refl (keeps_events k) r)))
      ∙ ap (λ b. is (held (connection_entry (cut_connection k n r))) (carries w o i) || b) (any_carries_from (n + 1) rs (λ j. both (suc j)))

-- ---- the checks of a step

module _ (s : Sheet) (a : accepted s ≡ true) (k : Kept) (chosen : Chosen) (closed : Closed s chosen k) where
  sends_same : (v : Option ℕ) → ((e : ℕ) → v ≡ Some e → k (KeptEvent e) ≡ true) → sends s v ≡ sends (cut_sheet k chosen s) v
  sends_same None h = refl
  sends_same (Some e) h = ap (λ y. is y goes_out) (sym (event_kept k chosen s e (h e refl)))

  hears_same : (v : Option ℕ) → ((e : ℕ) → v ≡ Some e → k (KeptEvent e) ≡ true) → hears s v ≡ hears (cut_sheet k chosen s) v
  hears_same None h = refl
  hears_same (Some e) h = ap (λ y. is y (λ z. not (goes_out z))) (sym (event_kept k chosen s e (h e refl)))

  -- a test of two kept transitions
  both_tested : (t h : ℕ) (l : KeptBelow k chosen s t) (r : KeptBelow k chosen s h) (p q : Transition → Transition → Bool) → p l.below r.below ≡ q (with_to k l.below) (with_to k r.below) → is (transition_at s t) (λ x. is (transition_at s h) (p x)) ≡ is (transition_at (cut_sheet k chosen s) t) (λ x. is (transition_at (cut_sheet k chosen s) h) (q x))
  both_tested t h l r p q e =
      ap (λ o. is o (λ x. is (transition_at s h) (p x))) l.stands
      ∙ ap (λ o. is o (p l.below)) r.stands
      ∙ e
      ∙ sym (ap (λ o. is o (q (with_to k l.below))) r.above)
      ∙ sym (ap (λ o. is o (λ x. is (transition_at (cut_sheet k chosen s) h) (q x))) l.above)

  well_made_same : (x : Step) → KeptStep (cut_sheet k chosen s) x → well_made s x ≡ well_made (cut_sheet k chosen s) x
  well_made_same (Alone t) kept =
      let l = kept_below k chosen s t kept.0 in
      ap (λ o. is o (λ x. not (is_some x.event))) l.stands ∙ sym (ap (λ o. is o (λ x. not (is_some x.event))) l.above)
  well_made_same (Pair t h) kept =
      let l = kept_below k chosen s t kept.0 in
      let r = kept_below k chosen s h kept.1.0 in
      let x = l.below in
      let y = r.below in
      both_tested t h l r
      (λ x y. sends s x.event && (hears s y.event && not (eqb x.component y.component)))
      (λ x y. sends (cut_sheet k chosen s) x.event && (hears (cut_sheet k chosen s) y.event && not (eqb x.component y.component)))
      (ap (λ b. b && (hears s y.event && not (eqb x.component y.component))) (sends_same x.event (λ v f. event_of_kept k chosen s closed t v x l.stands l.from_kept f))
      ∙ ap (λ b. sends (cut_sheet k chosen s) x.event && (b && not (eqb x.component y.component))) (hears_same y.event (λ v f. event_of_kept k chosen s closed h v y r.stands r.from_kept f)))

  there_same : (t : ℕ) → IsKeptTransition (cut_sheet k chosen s) t → is_there s t ≡ is_there (cut_sheet k chosen s) t
  there_same t kept = ap is_some (kept_below k chosen s t kept).stands ∙ sym kept

  module _ (w : State) where
    in_from_mode_same : (t : ℕ) → IsKeptTransition (cut_sheet k chosen s) t → in_from_mode s w t ≡ in_from_mode (cut_sheet k chosen s) (shown k w) t
    in_from_mode_same t kept =
        let l = kept_below k chosen s t kept in
        ap (λ o. is o (λ x. eqb (mode_of w x.component) x.from)) l.stands
        ∙ in_kept_mode k closed.no_mode_0 w l.below.component l.below.from l.from_kept
        ∙ sym (ap (λ o. is o (λ x. eqb (mode_of (shown k w) x.component) x.from)) l.above)

    guard_holds_same : (t : ℕ) → IsKeptTransition (cut_sheet k chosen s) t → guard_holds s w t ≡ guard_holds (cut_sheet k chosen s) (shown k w) t
    guard_holds_same t kept =
        let l = kept_below k chosen s t kept in
        ap (λ o. is o (λ x. truth_in (node_value s w x.guard))) l.stands
        ∙ ap truth_in (node_value_shown s a k chosen closed w l.below.guard (guard_rests_on_kept k chosen s a closed t l.below l.stands l.from_kept))
        ∙ sym (ap (λ o. is o (λ x. truth_in (node_value (cut_sheet k chosen s) (shown k w) x.guard))) l.above)

    carried_same : (o i : Option ℕ) → ((v : ℕ) → o ≡ Some v → k (KeptEvent v) ≡ true) → ((v : ℕ) → i ≡ Some v → k (KeptEvent v) ≡ true) → is o (λ o. is i (λ i. any_carries w o i (rows s connections))) ≡ is o (λ o. is i (λ i. any_carries (shown k w) o i (numbered (cut_connection k) (rows s connections))))
    carried_same None i f g = refl
    carried_same (Some o) None f g = refl
    carried_same (Some o) (Some i) f g =
        any_carries_from k w (shown k w) o i (f o refl) (g i refl) 0 (rows s connections) (λ j c e leads.
        lists_kept_modes k closed.no_mode_0 w c.owner c.modes (λ m h.
        closed.connection_modes j m c e (or_left (k (KeptEvent c.out_event)) (k (KeptEvent c.in_event)) (ap (λ v. k (KeptEvent v)) leads ∙ f o refl)) h))

    connected_same : (x : Step) → KeptStep (cut_sheet k chosen s) x → connected s w x ≡ connected (cut_sheet k chosen s) (shown k w) x
    connected_same (Alone t) kept = refl
    connected_same (Pair t h) kept =
        let l = kept_below k chosen s t kept.0 in
        let r = kept_below k chosen s h kept.1.0 in
        both_tested t h l r
        (λ x y. is x.event (λ o. is y.event (λ i. any_carries w o i (rows s connections))))
        (λ x y. is x.event (λ o. is y.event (λ i. any_carries (shown k w) o i (numbered (cut_connection k) (rows s connections)))))
        (carried_same l.below.event r.below.event (λ v f. event_of_kept k chosen s closed t v l.below l.stands l.from_kept f) (λ v f. event_of_kept k chosen s closed h v r.below r.stands r.from_kept f))

    pub step_tries_same : (x : Step) → KeptStep (cut_sheet k chosen s) x → step_tries s w x ≡ step_tries (cut_sheet k chosen s) (shown k w) x
    step_tries_same x kept =
        let cut = cut_sheet k chosen s in
        let t8 = each_part_same (is_there s) (is_there cut) NoTransition (parts x) (every_map there_same (parts x) kept) in
        let t10 = each_part_same (in_from_mode s w) (in_from_mode cut (shown k w)) OtherMode (parts x) (every_map in_from_mode_same (parts x) kept) in
        let t12 = each_part_same (guard_holds s w) (guard_holds cut (shown k w)) GuardFalse (parts x) (every_map guard_holds_same (parts x) kept) in
        rw (t8, well_made_same x kept, t10, connected_same x kept, t12)
