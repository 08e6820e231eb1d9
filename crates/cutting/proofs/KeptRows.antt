-- The rows that stay in a cut sheet, and the nodes that they use.
use Rattle.std.proofs.Common.{◌≡◌, ℕ, Bool, true, ◌||◌, List, [], get_or, Some, sym, ap, ◌∙◌}
use Rattle.std.proofs.lemmas.Option.{slice_get-get_or}
use Rattle.std.proofs.lemmas.Bool.{or_left, or_right}
use Rattle.std.specs.Option.{option_map}
use Rattle.std.specs.List.{list_any}
use Rattle.sheet.specs.Entry.{Entry}
use Rattle.sheet.specs.declared.rows.Element.{Element}
use Rattle.sheet.specs.declared.rows.Flow.{Flow}
use Rattle.sheet.specs.declared.rows.Node.{Node}
use Rattle.sheet.specs.declared.rows.Question.{Question}
use Rattle.sheet.specs.declared.rows.Setting.{Setting}
use Rattle.sheet.specs.declared.rows.Target.TheVariants.{Node as ThatNode}
use Rattle.sheet.specs.declared.rows.Transition.{Transition}
use Rattle.sheet.specs.Lookup.{held, there, element_at, event_at, node_at, flow_at, transition_at, setting_at, question_at}
use Rattle.sheet.specs.Resting.{rests}
use Rattle.sheet.specs.Sections.{Row, Sheet, rows, flows, transitions, settings, questions}
use Rattle.sheet.specs.Typed.{flow_entry, transition_entry, setting_entry, question_entry}
use Rattle.sheet.proofs.Lookups.{is_from}
use Rattle.sheet.proofs.Meaning.{there_inside}
use Rattle.cutting.specs.declared.kinds.Thing.TheVariants.{Element as KeptElement, Event as KeptEvent, Mode as KeptMode}
use Rattle.cutting.specs.Agreement.{IsKeptTransition}
use Rattle.cutting.specs.CutSheet.{keeps_setting, cut_flow, cut_transition, cut_setting, cut_question, rests_by, is_used, cut_sheet}
use Rattle.cutting.specs.Kept.{Kept, Chosen, keeps_from, Closed}
use Rattle.cutting.specs.Numbered.{numbered}
use Rattle.cutting.proofs.CutRows.{passing, with_to, element_cut, event_cut, node_cut, flow_cut, transition_cut, setting_cut, question_cut}
use Rattle.cutting.proofs.NumberedLists.{passes_at}
use Rattle.cutting.proofs.Passings.{found, all_pass, passing_found, passing_kept, mapped_found}

module _ (k : Kept) (chosen : Chosen) (s : Sheet) where
  -- ---- rows that stay, and rows that are there

  pub element_kept : (e : ℕ) → k (KeptElement e) ≡ true → element_at (cut_sheet k chosen s) e ≡ element_at s e
  element_kept e h = element_cut k chosen s e ∙ all_pass (k (KeptElement e)) (element_at s e) h

  pub event_kept : (v : ℕ) → k (KeptEvent v) ≡ true → event_at (cut_sheet k chosen s) v ≡ event_at s v
  event_kept v h = event_cut k chosen s v ∙ all_pass (k (KeptEvent v)) (event_at s v) h

  pub node_kept : (n : ℕ) → is_used k chosen s n ≡ true → node_at (cut_sheet k chosen s) n ≡ node_at s n
  node_kept n h = node_cut k chosen s n ∙ all_pass (is_used k chosen s n) (node_at s n) h

  pub question_kept : (q : ℕ) → chosen q ≡ true → question_at (cut_sheet k chosen s) q ≡ question_at s q
  question_kept q h = question_cut k chosen s q ∙ all_pass (chosen q) (question_at s q) h

  pub element_was : (e : ℕ) (x : Element) → element_at (cut_sheet k chosen s) e ≡ Some x → (element_at s e ≡ Some x) × (k (KeptElement e) ≡ true)
  element_was e x h = passing_found (λ y. k (KeptElement e)) (element_at s e) x (sym (element_cut k chosen s e) ∙ h)

  pub node_was : (n : ℕ) (x : Node) → node_at (cut_sheet k chosen s) n ≡ Some x → (node_at s n ≡ Some x) × (is_used k chosen s n ≡ true)
  node_was n x e = passing_found (λ y. is_used k chosen s n) (node_at s n) x (sym (node_cut k chosen s n) ∙ e)

  pub flow_was : (i : ℕ) (x : Flow) → flow_at (cut_sheet k chosen s) i ≡ Some x → (flow_at s i ≡ Some x) × (k (KeptElement x.port) ≡ true)
  flow_was i x e = passing_found (λ y. k (KeptElement y.port)) (flow_at s i) x (sym (flow_cut k chosen s i) ∙ e)

  pub setting_was : (i : ℕ) (x : Setting) → setting_at (cut_sheet k chosen s) i ≡ Some x → (setting_at s i ≡ Some x) × (keeps_setting k s x ≡ true)
  setting_was i x e = passing_found (keeps_setting k s) (setting_at s i) x (sym (setting_cut k chosen s i) ∙ e)

  pub question_was : (q : ℕ) (x : Question) → question_at (cut_sheet k chosen s) q ≡ Some x → (question_at s q ≡ Some x) × (chosen q ≡ true)
  question_was q x e = passing_found (λ y. chosen q) (question_at s q) x (sym (question_cut k chosen s q) ∙ e)

  pub transition_stays : (t : ℕ) (x : Transition) → transition_at s t ≡ Some x → keeps_from k x ≡ true → transition_at (cut_sheet k chosen s) t ≡ Some (with_to k x)
  transition_stays t x e h = transition_cut k chosen s t ∙ ap (option_map (with_to k)) (passing_kept (keeps_from k) (transition_at s t) x e h)

  pub transition_was : (t : ℕ) (y : Transition) → transition_at (cut_sheet k chosen s) t ≡ Some y → (x : Transition) × (transition_at s t ≡ Some x) × (keeps_from k x ≡ true) × (with_to k x ≡ y)
  transition_was t y e =
      let p = mapped_found (with_to k) (passing (keeps_from k) (transition_at s t)) y (sym (transition_cut k chosen s t) ∙ e) in
      let q = passing_found (keeps_from k) (transition_at s t) p.0 p.1 in
      (p.0, q.0, q.1, p.2)

  -- a transition that the cut kept: what it was below, and what it is in the cut
  pub record KeptBelow (t : ℕ) : Type 0 where
    pub below : Transition
    pub stands : transition_at s t ≡ Some below
    pub from_kept : keeps_from k below ≡ true
    pub above : transition_at (cut_sheet k chosen s) t ≡ Some (with_to k below)

  pub kept_below : (t : ℕ) → IsKeptTransition (cut_sheet k chosen s) t → KeptBelow t
  kept_below t h =
      let y = found (transition_at (cut_sheet k chosen s) t) h in
      let p = transition_was t y.0 y.1 in
      record { below = p.0; stands = p.1; from_kept = p.2; above = transition_stays t p.0 p.1 p.2 }

  pub flow_stays : (i : ℕ) (x : Flow) → flow_at s i ≡ Some x → k (KeptElement x.port) ≡ true → flow_at (cut_sheet k chosen s) i ≡ Some x
  flow_stays i x e h = flow_cut k chosen s i ∙ passing_kept (λ x. k (KeptElement x.port)) (flow_at s i) x e h

  pub setting_stays : (i : ℕ) (x : Setting) → setting_at s i ≡ Some x → keeps_setting k s x ≡ true → setting_at (cut_sheet k chosen s) i ≡ Some x
  setting_stays i x e h = setting_cut k chosen s i ∙ passing_kept (keeps_setting k s) (setting_at s i) x e h

  -- the event of a kept transition is kept
  pub event_of_kept : Closed s chosen k → (t v : ℕ) (x : Transition) → transition_at s t ≡ Some x → keeps_from k x ≡ true → x.event ≡ Some v → k (KeptEvent v) ≡ true
  event_of_kept closed t v x e h f = closed.touched_event t v x e (or_left (keeps_from k x) (k (KeptMode x.component x.to)) h) f

  -- ---- a node that a row rests on is used

  module _ {X : Type 0} (n : ℕ) (entry : Row → Entry X) (node : X → ℕ) where
    used_by : (rs : List Row) (i : ℕ) (x : X) → there entry rs i ≡ Some x → rests s (ThatNode n) (node x) ≡ true → list_any (rests_by s n entry node) rs ≡ true
    used_by rs i x e h =
        let p = there_inside entry rs i x e in
        passes_at (rests_by s n entry node) rs i (get_or rs i []) (slice_get-get_or rs i [] p.0) (is_from (held (entry (get_or rs i []))) (λ x. rests s (ThatNode n) (node x)) x p.1 h)

  module _ (n : ℕ) where
    -- the four tests of `is_used`
    abbrev pub by_flow : Bool
    by_flow = list_any (rests_by s n flow_entry (λ x. x.node)) (numbered (cut_flow k) (rows s flows))

    abbrev pub by_guard : Bool
    by_guard = list_any (rests_by s n transition_entry (λ x. x.guard)) (numbered (cut_transition k) (rows s transitions))

    abbrev pub by_setting : Bool
    by_setting = list_any (rests_by s n setting_entry (λ x. x.node)) (numbered (cut_setting k s) (rows s settings))

    abbrev pub by_question : Bool
    by_question = list_any (rests_by s n question_entry (λ x. x.node)) (numbered (cut_question chosen) (rows s questions))

    pub used_by_flow : (i : ℕ) (x : Flow) → flow_at (cut_sheet k chosen s) i ≡ Some x → rests s (ThatNode n) x.node ≡ true → is_used k chosen s n ≡ true
    used_by_flow i x e h = or_left by_flow (by_guard || (by_setting || by_question)) (used_by n flow_entry (λ x. x.node) (numbered (cut_flow k) (rows s flows)) i x e h)

    pub used_by_guard : (t : ℕ) (x : Transition) → transition_at (cut_sheet k chosen s) t ≡ Some x → rests s (ThatNode n) x.guard ≡ true → is_used k chosen s n ≡ true
    used_by_guard t x e h = or_right by_flow (by_guard || (by_setting || by_question)) (or_left by_guard (by_setting || by_question) (used_by n transition_entry (λ x. x.guard) (numbered (cut_transition k) (rows s transitions)) t x e h))

    pub used_by_setting : (i : ℕ) (x : Setting) → setting_at (cut_sheet k chosen s) i ≡ Some x → rests s (ThatNode n) x.node ≡ true → is_used k chosen s n ≡ true
    used_by_setting i x e h = or_right by_flow (by_guard || (by_setting || by_question)) (or_right by_guard (by_setting || by_question) (or_left by_setting by_question (used_by n setting_entry (λ x. x.node) (numbered (cut_setting k s) (rows s settings)) i x e h)))

    pub used_by_question : (q : ℕ) (x : Question) → question_at (cut_sheet k chosen s) q ≡ Some x → rests s (ThatNode n) x.node ≡ true → is_used k chosen s n ≡ true
    used_by_question q x e h = or_right by_flow (by_guard || (by_setting || by_question)) (or_right by_guard (by_setting || by_question) (or_right by_setting by_question (used_by n question_entry (λ x. x.node) (numbered (cut_question chosen) (rows s questions)) q x e h)))
