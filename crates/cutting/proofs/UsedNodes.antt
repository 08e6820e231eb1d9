-- All that a remaining row or node of a cut sheet rests on is kept.
use Rattle.std.proofs.Common.{◌≡◌, ℕ, true, ◌||◌, List, Some, ap, ◌∙◌, subst, ⊎_elim}
use Rattle.std.proofs.lemmas.Bool.{and_parts, or_cases, or_left}
use Rattle.std.specs.List.{list_any}
use Rattle.sheet.specs.Entry.{Entry}
use Rattle.sheet.specs.declared.rows.Flow.{Flow}
use Rattle.sheet.specs.declared.rows.Node.{Node}
use Rattle.sheet.specs.declared.rows.Question.{Question}
use Rattle.sheet.specs.declared.rows.Setting.{Setting}
use Rattle.sheet.specs.declared.rows.Target.{Target}
use Rattle.sheet.specs.declared.rows.Target.TheVariants.{Node as ThatNode, Element as ThatElement, Mode as ThatMode}
use Rattle.sheet.specs.declared.rows.Transition.{Transition}
use Rattle.sheet.specs.Accept.{accepted}
use Rattle.sheet.specs.Lookup.{held, read_by, there, is, node_at, flow_at, transition_at, setting_at, question_at}
use Rattle.sheet.specs.Resting.{operands, among, rests}
use Rattle.sheet.specs.Sections.{Row, Sheet, rows, flows, transitions, settings, questions}
use Rattle.sheet.specs.Typed.{flow_entry, transition_entry, setting_entry, question_entry}
use Rattle.sheet.proofs.Lookups.{is_cases}
use Rattle.cutting.specs.declared.kinds.Thing.TheVariants.{Element as KeptElement, Mode as KeptMode}
use Rattle.cutting.specs.CutSheet.{keeps_setting, cut_flow, cut_transition, cut_setting, cut_question, rests_by, is_used}
use Rattle.cutting.specs.Kept.{Kept, Chosen, keeps_from, Closed}
use Rattle.cutting.specs.Numbered.{numbered}
use Rattle.cutting.proofs.CutRows.{with_to}
use Rattle.cutting.proofs.KeptRows.{question_kept, question_was, flow_stays, flow_was, transition_stays, transition_was, setting_stays, setting_was, by_flow, by_guard, by_setting, by_question, used_by_flow, used_by_guard, used_by_setting, used_by_question}
use Rattle.cutting.proofs.NumberedLists.{passing_place}
use Rattle.cutting.proofs.Restings.{rests_through, rests_on_from, flow_rests_on_no_mode, setting_rests_on_no_mode, guard_rests_on_no_mode}

-- All that node n rests on is kept, and the nodes among it stay.
pub record RestsOnKept (k : Kept) (chosen : Chosen) (s : Sheet) (n : ℕ) : Type 0 where
  pub elements : (e : ℕ) → rests s (ThatElement e) n ≡ true → k (KeptElement e) ≡ true
  pub modes : (c m : ℕ) → rests s (ThatMode c m) n ≡ true → k (KeptMode c m) ≡ true
  pub nodes : (i : ℕ) → rests s (ThatNode i) n ≡ true → is_used k chosen s i ≡ true

module _ (k : Kept) (chosen : Chosen) (s : Sheet) (a : accepted s ≡ true) where
  -- a node that rests on no more than node n
  rests_on_no_more : (n o : ℕ) → ((t : Target) → rests s t o ≡ true → rests s t n ≡ true) → RestsOnKept k chosen s n → RestsOnKept k chosen s o
  rests_on_no_more n o more g =
      record {
        elements = λ d h. g.elements d (more (ThatElement d) h);
        modes = λ c m h. g.modes c m (more (ThatMode c m) h);
        nodes = λ i h. g.nodes i (more (ThatNode i) h);
      }

  pub kept_operand : (n o : ℕ) (x : Node) → node_at s n ≡ Some x → among o (operands x) ≡ true → RestsOnKept k chosen s n → RestsOnKept k chosen s o
  kept_operand n o x e m = rests_on_no_more n o (λ t. rests_through s a t n o x e m)

  module _ (closed : Closed s chosen k) where
    -- ---- rows

    pub flow_rests_on_kept : (i : ℕ) (x : Flow) → flow_at s i ≡ Some x → k (KeptElement x.port) ≡ true → RestsOnKept k chosen s x.node
    flow_rests_on_kept i x e h =
        record {
          elements = λ d r. closed.flow_elements i d x e h r;
          modes = λ c m r. absurd (flow_rests_on_no_mode s a i c m x e r);
          nodes = λ n r. used_by_flow k chosen s n i x (flow_stays k chosen s i x e h) r;
        }

    pub guard_rests_on_kept : (t : ℕ) (x : Transition) → transition_at s t ≡ Some x → keeps_from k x ≡ true → RestsOnKept k chosen s x.guard
    guard_rests_on_kept t x e h =
        record {
          elements = λ d r. closed.touched_guard t d x e (or_left (keeps_from k x) (k (KeptMode x.component x.to)) h) r;
          modes = λ c m r. absurd (guard_rests_on_no_mode s a t c m x e r);
          nodes = λ n r. used_by_guard k chosen s n t (with_to k x) (transition_stays k chosen s t x e h) r;
        }

    pub setting_rests_on_kept : (i : ℕ) (x : Setting) → setting_at s i ≡ Some x → keeps_setting k s x ≡ true → RestsOnKept k chosen s x.node
    setting_rests_on_kept i x e h =
        let p = and_parts (is (transition_at s x.transition) (keeps_from k)) (k (KeptElement x.element)) h in
        let q = is_cases (transition_at s x.transition) (keeps_from k) p.0 in
        let y = q.0 in
        record {
          elements = λ d r. closed.touched_setting i d x y e q.1 (or_left (keeps_from k y) (k (KeptMode y.component y.to)) q.2) p.1 r;
          modes = λ c m r. absurd (setting_rests_on_no_mode s a i c m x e r);
          nodes = λ n r. used_by_setting k chosen s n i x (setting_stays k chosen s i x e h) r;
        }

    pub question_rests_on_kept : (q : ℕ) (x : Question) → question_at s q ≡ Some x → chosen q ≡ true → RestsOnKept k chosen s x.node
    question_rests_on_kept q x e h =
        record {
          elements = λ d r. closed.question_elements q d x h e r;
          modes = λ c m r. closed.question_modes q c m x h e r;
          nodes = λ n r. used_by_question k chosen s n q x (question_kept k chosen s q h ∙ e) r;
        }

    -- ---- nodes

    module _ (n : ℕ) where
      -- a node that some row of a section rests on, where each row rests on kept things
      used_in : {X : Type 0} (entry : Row → Entry X) (node : X → ℕ) (rs : List Row) → ((i : ℕ) (x : X) → there entry rs i ≡ Some x → RestsOnKept k chosen s (node x)) → list_any (rests_by s n entry node) rs ≡ true → RestsOnKept k chosen s n
      used_in entry node rs rested h =
          let p = passing_place (rests_by s n entry node) rs h in
          let q = is_cases (held (entry p.1)) (λ x. rests s (ThatNode n) (node x)) p.3 in
          let r = node q.0 in
          rests_on_no_more r n (λ t. rests_on_from s a t r n q.2) (rested p.0 q.0 (ap (read_by entry) p.2 ∙ q.1))

      by_flow_rests : by_flow k chosen s n ≡ true → RestsOnKept k chosen s n
      by_flow_rests = used_in flow_entry (λ x. x.node) (numbered (cut_flow k) (rows s flows)) (λ i x e. let p = flow_was k chosen s i x e in flow_rests_on_kept i x p.0 p.1)

      by_guard_rests : by_guard k chosen s n ≡ true → RestsOnKept k chosen s n
      by_guard_rests =
          used_in transition_entry (λ x. x.guard) (numbered (cut_transition k) (rows s transitions)) (λ t y e.
          let p = transition_was k chosen s t y e in
          subst (λ (z : Transition). RestsOnKept k chosen s z.guard) p.3 (guard_rests_on_kept t p.0 p.1 p.2))

      by_setting_rests : by_setting k chosen s n ≡ true → RestsOnKept k chosen s n
      by_setting_rests = used_in setting_entry (λ x. x.node) (numbered (cut_setting k s) (rows s settings)) (λ i x e. let p = setting_was k chosen s i x e in setting_rests_on_kept i x p.0 p.1)

      by_question_rests : by_question k chosen s n ≡ true → RestsOnKept k chosen s n
      by_question_rests = used_in question_entry (λ x. x.node) (numbered (cut_question chosen) (rows s questions)) (λ q x e. let p = question_was k chosen s q x e in question_rests_on_kept q x p.0 p.1)

      -- all that a remaining node rests on remains
      pub used_rests : is_used k chosen s n ≡ true → RestsOnKept k chosen s n
      used_rests h =
          let flow = by_flow k chosen s n in
          let guard = by_guard k chosen s n in
          let setting = by_setting k chosen s n in
          let question = by_question k chosen s n in
          ⊎_elim by_flow_rests
          (λ (z : (guard || (setting || question)) ≡ true).
          ⊎_elim by_guard_rests
          (λ (z : (setting || question) ≡ true). ⊎_elim by_setting_rests by_question_rests (or_cases setting question z))
          (or_cases guard (setting || question) z))
          (or_cases flow (guard || (setting || question)) h)
