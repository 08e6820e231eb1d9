-- The rows of a cut sheet as typed values.
use Rattle.std.proofs.Common.{◌≡◌, ℕ, ◌<◌, ◌≤◌, Bool, true, false, cond, ◌&&◌, leb, List, [], length, get_or, Some, None, Option, sym, refl, ap, ◌∙◌, ⊎_elim, arith, Err, Ok}
use Rattle.std.proofs.lemmas.Option.{slice_get-get_or, slice_get_past}
use Rattle.std.proofs.lemmas.Bool.{and_parts, and_from, eqb-true, le-leb, cases_lt, cond_both}
use Rattle.std.specs.Option.{option_map}
use Rattle.std.specs.List.{slice_get}
use Rattle.sheet.specs.Entry.{Entry, malformed}
use Rattle.sheet.specs.declared.rows.Component.{Component}
use Rattle.sheet.specs.declared.rows.Transition.{Transition}
use Rattle.sheet.specs.Accept.{accepted}
use Rattle.sheet.specs.Lookup.{held, read_by, there, is, component_at, element_at, event_at, node_at, flow_at, connection_at, transition_at, setting_at, question_at}
use Rattle.sheet.specs.Sections.{Row, Sheet, rows, components, elements, events, nodes, flows, connections, transitions, settings, questions}
use Rattle.sheet.specs.Typed.{at, zeros, holds_if, blank_or, event_named, component_entry, element_entry, event_entry, node_entry, flow_entry, connection_entry, transition_entry, setting_entry, question_entry}
use Rattle.sheet.proofs.Meaning.{keeps_the_rules}
use Rattle.cutting.specs.declared.kinds.Thing.TheVariants.{Element as KeptElement, Event as KeptEvent, Mode as KeptMode}
use Rattle.cutting.specs.CutSheet.{blank_row, stays_if, shown_mode, keeps_events, with_shown_to, cut_component, cut_transition, keeps_setting, is_used, cut_sheet}
use Rattle.cutting.specs.Kept.{Kept, Chosen, keeps_from}
use Rattle.cutting.specs.Numbered.{numbered}
use Rattle.cutting.proofs.NumberedLists.{nth_numbered}

-- what is there, if it passes the test
abbrev pub passing : {X : Type 0} → (X → Bool) → Option X → Option X
passing p None = None
passing p (Some x) = cond (p x) (Some x) None

-- ---- a row that stays or becomes blank, for every section

module _ {X : Type 0} (k : ℕ) (entry : Row → Entry X) (blank : held (entry (blank_row k)) ≡ None) where
  stays_by : (b : Bool) (r : Row) → held (entry (cond b r (blank_row k))) ≡ cond b (held (entry r)) None
  stays_by true r = refl
  stays_by false r = blank

  is_passing : (o : Option X) (test : X → Bool) → cond (is o test) o None ≡ passing test o
  is_passing None test = refl
  is_passing (Some x) test = refl

  -- what a row holds that stays or becomes blank
  pub held_stays : (test : X → Bool) (r : Row) → held (entry (stays_if k entry test r)) ≡ passing test (held (entry r))
  held_stays test r = stays_by (is (held (entry r)) test) r ∙ is_passing (held (entry r)) test

  read_stays : (test : X → Bool) (o : Option Row) → read_by entry (option_map (stays_if k entry test) o) ≡ passing test (read_by entry o)
  read_stays test None = refl
  read_stays test (Some r) = held_stays test r

  pub there_stays : (test : ℕ → X → Bool) (rs : List Row) (i : ℕ) → there entry (numbered (λ n. stays_if k entry (test n)) rs) i ≡ passing (test i) (there entry rs i)
  there_stays test rs i = ap (read_by entry) (nth_numbered (λ n. stays_if k entry (test n)) rs i) ∙ read_stays (test i) (slice_get rs i)

-- ---- transitions

-- a transition with its to mode as it is shown
abbrev pub with_to : Kept → Transition → Transition
with_to k x = record { component = x.component; from = x.from; to = shown_mode k x.component x.to; event = x.event; guard = x.guard }

-- the transition that some bytes are, if they are one
abbrev transition_in : Row → Transition
transition_in r = record { component = at r 0; from = at r 1; to = at r 2; event = event_named (at r 3); guard = at r 4 }

held_holds_if : {X : Type 0} (b : Bool) (x : X) → held (holds_if b x) ≡ cond b (Some x) None
held_holds_if true x = refl
held_holds_if false x = refl

-- a row of transitions holds one exactly where its from mode is not 0
held_transition : (r : Row) → held (transition_entry r) ≡ cond (leb 1 (at r 1)) (Some (transition_in r)) None
held_transition r = by (zeros 5 r) refl
  where
    by : (z : Bool) → zeros 5 r ≡ z → held (blank_or z (holds_if (leb 1 (at r 1)) (transition_in r))) ≡ cond (leb 1 (at r 1)) (Some (transition_in r)) None
    by true e =
        let f : at r 1 ≡ 0 = eqb-true (at r 1) 0 (and_parts _ _ (and_parts _ _ (and_parts _ _ (and_parts _ _ e).0).0).0).1 in
        sym (ap (λ n. cond (leb 1 n) (Some (transition_in r)) None) f)
    by false e = held_holds_if (leb 1 (at r 1)) (transition_in r)

module _ (k : Kept) where
  cut_held : (b : Bool) (r : Row) → leb 1 (at r 1) ≡ b → held (transition_entry (cond (is (cond b (Some (transition_in r)) None) (keeps_from k)) (with_shown_to k r) (blank_row transitions))) ≡ option_map (with_to k) (passing (keeps_from k) (cond b (Some (transition_in r)) None))
  cut_held false r e = refl
  cut_held true r e = by (keeps_from k (transition_in r))
    where
      by : (b : Bool) → held (transition_entry (cond b (with_shown_to k r) (blank_row transitions))) ≡ option_map (with_to k) (cond b (Some (transition_in r)) None)
      by true = held_transition (with_shown_to k r) ∙ ap (λ b. cond b (Some (with_to k (transition_in r))) None) e
      by false = refl

  read_cut : (i : ℕ) (o : Option Row) → read_by transition_entry (option_map (cut_transition k i) o) ≡ option_map (with_to k) (passing (keeps_from k) (read_by transition_entry o))
  read_cut i None = refl
  read_cut i (Some r) =
      ap (λ o. held (transition_entry (cond (is o (keeps_from k)) (with_shown_to k r) (blank_row transitions)))) (held_transition r)
      ∙ cut_held (leb 1 (at r 1)) r refl
      ∙ ap (λ o. option_map (with_to k) (passing (keeps_from k) o)) (sym (held_transition r))

-- ---- components

-- a component with its start mode as it is shown
abbrev pub with_start : Kept → ℕ → Component → Component
with_start k c x = record { modes = x.modes; start = shown_mode k c x.start }

-- the component that some bytes are, if they are right
abbrev component_in : Row → Component
component_in r = record { modes = at r 0; start = at r 1 }

abbrev pub right_component : (modes start : ℕ) → Bool
right_component n m = leb 1 n && (leb n 15 && leb m n)

right_shown : (n m : ℕ) (b : Bool) → right_component n m ≡ true → right_component n (cond b m 0) ≡ true
right_shown n m b h =
    let p = and_parts (leb 1 n) (leb n 15 && leb m n) h in
    let q = and_parts (leb n 15) (leb m n) p.1 in
    cond_both b m 0 (λ j. right_component n j ≡ true) (λ _. h) (λ _. and_from (leb 1 n) (leb n 15 && leb 0 n) p.0 (and_from (leb n 15) (leb 0 n) q.0 (le-leb 0 n (omega arith))))

holds_unless_faulty : {X : Type 0} (b : Bool) (x : X) → (holds_if b x ≡ Err malformed → ⊥) → b ≡ true
holds_unless_faulty true x h = refl
holds_unless_faulty false x h = absurd (h refl)

module _ (k : Kept) (c : ℕ) (r : Row) (h : component_entry r ≡ Err malformed → ⊥) where
  bytes_right : right_component (at r 0) (at r 1) ≡ true
  bytes_right = holds_unless_faulty (right_component (at r 0) (at r 1)) (component_in r) h

  -- a component is never blank, and stays one
  pub component_holds : component_entry (cut_component k c r) ≡ Ok (Some (with_start k c (component_in r)))
  component_holds = ap (λ b. holds_if b (with_start k c (component_in r))) (right_shown (at r 0) (at r 1) (k (KeptMode c (at r 1))) bytes_right)

  held_component : held (component_entry (cut_component k c r)) ≡ option_map (with_start k c) (held (component_entry r))
  held_component = ap held component_holds ∙ sym (ap (λ b. option_map (with_start k c) (held (holds_if b (component_in r)))) bytes_right)

-- ---- the sheet

module _ (s : Sheet) (a : accepted s ≡ true) (k : Kept) (chosen : Chosen) where
  pub component_cut : (c : ℕ) → component_at (cut_sheet k chosen s) c ≡ option_map (with_start k c) (component_at s c)
  component_cut c =
      let rs = rows s components in
      let cut : Option Row → Option Component = λ o. read_by component_entry (option_map (cut_component k c) o) in
      let whole : Option Row → Option Component = λ o. option_map (with_start k c) (read_by component_entry o) in
      ap (read_by component_entry) (nth_numbered (cut_component k) rs c)
      ∙ ⊎_elim
      (λ (l : c < length rs). ap cut (slice_get-get_or rs c [] l) ∙ held_component k c (get_or rs c []) ((keeps_the_rules s a).components_right.not_faulty c l) ∙ sym (ap whole (slice_get-get_or rs c [] l)))
      (λ (l : length rs ≤ c). ap cut (slice_get_past rs c l) ∙ sym (ap whole (slice_get_past rs c l)))
      (cases_lt c (length rs))

module _ (k : Kept) (chosen : Chosen) (s : Sheet) where
  pub transition_cut : (t : ℕ) → transition_at (cut_sheet k chosen s) t ≡ option_map (with_to k) (passing (keeps_from k) (transition_at s t))
  transition_cut t = ap (read_by transition_entry) (nth_numbered (cut_transition k) (rows s transitions) t) ∙ read_cut k t (slice_get (rows s transitions) t)

  pub element_cut : (e : ℕ) → element_at (cut_sheet k chosen s) e ≡ passing (λ x. k (KeptElement e)) (element_at s e)
  element_cut e = there_stays elements element_entry refl (λ n x. k (KeptElement n)) (rows s elements) e

  pub event_cut : (v : ℕ) → event_at (cut_sheet k chosen s) v ≡ passing (λ x. k (KeptEvent v)) (event_at s v)
  event_cut v = there_stays events event_entry refl (λ n x. k (KeptEvent n)) (rows s events) v

  pub node_cut : (n : ℕ) → node_at (cut_sheet k chosen s) n ≡ passing (λ x. is_used k chosen s n) (node_at s n)
  node_cut n = there_stays nodes node_entry refl (λ n x. is_used k chosen s n) (rows s nodes) n

  pub flow_cut : (i : ℕ) → flow_at (cut_sheet k chosen s) i ≡ passing (λ x. k (KeptElement x.port)) (flow_at s i)
  flow_cut i = there_stays flows flow_entry refl (λ n x. k (KeptElement x.port)) (rows s flows) i

  pub connection_cut : (i : ℕ) → connection_at (cut_sheet k chosen s) i ≡ passing (keeps_events k) (connection_at s i)
  connection_cut i = there_stays connections connection_entry refl (λ n. keeps_events k) (rows s connections) i

  pub setting_cut : (i : ℕ) → setting_at (cut_sheet k chosen s) i ≡ passing (keeps_setting k s) (setting_at s i)
  setting_cut i = there_stays settings setting_entry refl (λ n. keeps_setting k s) (rows s settings) i

  pub question_cut : (q : ℕ) → question_at (cut_sheet k chosen s) q ≡ passing (λ x. chosen q) (question_at s q)
  question_cut q = there_stays questions question_entry refl (λ n x. chosen n) (rows s questions) q
