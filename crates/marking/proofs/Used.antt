-- The nodes on which a remaining row rests.
use Rattle.std.proofs.Common.{◌≡◌, ℕ, Bool, true, false, cond, ◌||◌, List, [], get_or, Some, None, Option, sym, refl, ap, ◌∙◌, ⊎_elim}
use Rattle.std.proofs.lemmas.Option.{slice_get-get_or}
use Rattle.std.proofs.lemmas.Bool.{and_parts, and_from, or_cases, or_left, or_right, cond-true}
use Rattle.std.specs.Option.{option_map}
use Rattle.std.specs.List.{list_any}
use Rattle.sheet.specs.Entry.{Entry}
use Rattle.sheet.specs.declared.rows.Flow.{Flow}
use Rattle.sheet.specs.declared.rows.Question.{Question}
use Rattle.sheet.specs.declared.rows.Setting.{Setting}
use Rattle.sheet.specs.declared.rows.Target.TheVariants.{Node as ThatNode}
use Rattle.sheet.specs.declared.rows.Transition.{Transition}
use Rattle.sheet.specs.Lookup.{held, read_by, there, flow_at, transition_at, setting_at, question_at, is}
use Rattle.sheet.specs.Resting.{rests}
use Rattle.sheet.specs.Sections.{Row, Sheet, rows, flows, transitions, settings, questions}
use Rattle.sheet.specs.Typed.{flow_entry, transition_entry, setting_entry, question_entry}
use Rattle.sheet.proofs.Firsts.{no_pass}
use Rattle.sheet.proofs.Lookups.{is_cases, is_from}
use Rattle.sheet.proofs.Meaning.{there_inside}
use Rattle.cutting.specs.declared.kinds.Thing.TheVariants.{Element as KeptElement}
use Rattle.cutting.specs.CutSheet.{rests_by, is_used, cut_flow, cut_transition, cut_setting, cut_question, keeps_setting}
use Rattle.cutting.specs.Kept.{Kept, Chosen, keeps_from}
use Rattle.cutting.specs.Numbered.{numbered}
use Rattle.cutting.proofs.CutRows.{passing, with_to, flow_cut, transition_cut, setting_cut, question_cut}
use Rattle.cutting.proofs.NumberedLists.{passes_at, passing_place}
use Rattle.cutting.proofs.Passings.{mapped_found}

-- A remaining row names the node r: a flow to a kept port, a guard of a transition with a kept from mode, a setting of a
-- kept element by such a transition, or a chosen question.
pub data Names (k : Kept) (chosen : Chosen) (s : Sheet) (r : ℕ) : Type 0 where
  in_flow : (i : ℕ) (x : Flow) → flow_at s i ≡ Some x → k (KeptElement x.port) ≡ true → x.node ≡ r → Names k chosen s r
  in_guard : (t : ℕ) (y : Transition) → transition_at s t ≡ Some y → keeps_from k y ≡ true → y.guard ≡ r → Names k chosen s r
  in_setting : (i : ℕ) (x : Setting) (y : Transition) → setting_at s i ≡ Some x → transition_at s x.transition ≡ Some y → keeps_from k y ≡ true → k (KeptElement x.element) ≡ true → x.node ≡ r → Names k chosen s r
  in_question : (q : ℕ) (x : Question) → question_at s q ≡ Some x → chosen q ≡ true → x.node ≡ r → Names k chosen s r

-- ---- what is there, if it passes a test

module _ {X : Type 0} (p : X → Bool) where
  was_by : (b : Bool) (y x : X) → p y ≡ b → cond b (Some y) None ≡ Some x → (Some y ≡ Some x) × (p x ≡ true)
  was_by true y x h e = let same : y ≡ x = cc in (e, sym (ap p same) ∙ h)
  was_by false y x h e = no_pass x (sym e)

  passing_was : (o : Option X) (x : X) → passing p o ≡ Some x → (o ≡ Some x) × (p x ≡ true)
  passing_was None x e = no_pass x (sym e)
  passing_was (Some y) x e = was_by (p y) y x refl e

  passing_stays : (o : Option X) (x : X) → o ≡ Some x → p x ≡ true → passing p o ≡ Some x
  passing_stays o x e h = ap (passing p) e ∙ cond-true (p x) (Some x) None h

-- ---- the rows of a section that rest on a node

module _ {X : Type 0} (s : Sheet) (n : ℕ) (entry : Row → Entry X) (node : X → ℕ) (rs : List Row) where
  user_of : list_any (rests_by s n entry node) rs ≡ true → (i : ℕ) × (x : X) × (there entry rs i ≡ Some x) × (rests s (ThatNode n) (node x) ≡ true)
  user_of h =
      let p = passing_place (rests_by s n entry node) rs h in
      let q = is_cases (held (entry p.1)) (λ x. rests s (ThatNode n) (node x)) p.3 in
      (p.0, q.0, ap (read_by entry) p.2 ∙ q.1, q.2)

  used_by : (i : ℕ) (x : X) → there entry rs i ≡ Some x → rests s (ThatNode n) (node x) ≡ true → list_any (rests_by s n entry node) rs ≡ true
  used_by i x e h =
      let p = there_inside entry rs i x e in
      passes_at (rests_by s n entry node) rs i (get_or rs i []) (slice_get-get_or rs i [] p.0) (is_from (held (entry (get_or rs i []))) (λ x. rests s (ThatNode n) (node x)) x p.1 h)

module _ (k : Kept) (chosen : Chosen) (s : Sheet) (n : ℕ) where
  abbrev by_flows : Bool
  by_flows = list_any (rests_by s n flow_entry (λ x. x.node)) (numbered (cut_flow k) (rows s flows))

  abbrev by_guards : Bool
  by_guards = list_any (rests_by s n transition_entry (λ x. x.guard)) (numbered (cut_transition k) (rows s transitions))

  abbrev by_settings : Bool
  by_settings = list_any (rests_by s n setting_entry (λ x. x.node)) (numbered (cut_setting k s) (rows s settings))

  abbrev by_questions : Bool
  by_questions = list_any (rests_by s n question_entry (λ x. x.node)) (numbered (cut_question chosen) (rows s questions))

  -- a node on which a named node rests
  abbrev Used : Type 0
  Used = (r : ℕ) × Names k chosen s r × (rests s (ThatNode n) r ≡ true)

  from_flows : by_flows ≡ true → Used
  from_flows h =
      let u = user_of s n flow_entry (λ x. x.node) (numbered (cut_flow k) (rows s flows)) h in
      let x = u.1 in
      let p = passing_was (λ x. k (KeptElement x.port)) (flow_at s u.0) x (sym (flow_cut k chosen s u.0) ∙ u.2) in
      (x.node, in_flow u.0 x p.0 p.1 refl, u.3)

  from_guards : by_guards ≡ true → Used
  from_guards h =
      let u = user_of s n transition_entry (λ x. x.guard) (numbered (cut_transition k) (rows s transitions)) h in
      let m = mapped_found (with_to k) (passing (keeps_from k) (transition_at s u.0)) u.1 (sym (transition_cut k chosen s u.0) ∙ u.2) in
      let p = passing_was (keeps_from k) (transition_at s u.0) m.0 m.1 in
      (u.1.guard, in_guard u.0 m.0 p.0 p.1 (ap (λ y. y.guard) m.2), u.3)

  from_settings : by_settings ≡ true → Used
  from_settings h =
      let u = user_of s n setting_entry (λ x. x.node) (numbered (cut_setting k s) (rows s settings)) h in
      let x = u.1 in
      let p = passing_was (keeps_setting k s) (setting_at s u.0) x (sym (setting_cut k chosen s u.0) ∙ u.2) in
      let q = and_parts (is (transition_at s x.transition) (keeps_from k)) (k (KeptElement x.element)) p.1 in
      let t = is_cases (transition_at s x.transition) (keeps_from k) q.0 in
      (x.node, in_setting u.0 x t.0 p.0 t.1 t.2 q.1 refl, u.3)

  from_questions : by_questions ≡ true → Used
  from_questions h =
      let u = user_of s n question_entry (λ x. x.node) (numbered (cut_question chosen) (rows s questions)) h in
      let x = u.1 in
      let p = passing_was (λ x. chosen u.0) (question_at s u.0) x (sym (question_cut k chosen s u.0) ∙ u.2) in
      (x.node, in_question u.0 x p.0 p.1 refl, u.3)

  -- a node that remains is one on which a remaining row rests
  pub used_from : is_used k chosen s n ≡ true → Used
  used_from h =
      ⊎_elim
      from_flows
      (λ (z : (by_guards || (by_settings || by_questions)) ≡ true).
      ⊎_elim from_guards (λ (z : (by_settings || by_questions) ≡ true). ⊎_elim from_settings from_questions (or_cases by_settings by_questions z)) (or_cases by_guards (by_settings || by_questions) z))
      (or_cases by_flows (by_guards || (by_settings || by_questions)) h)

  -- and the other way round
  pub names_used : (r : ℕ) → Names k chosen s r → rests s (ThatNode n) r ≡ true → is_used k chosen s n ≡ true
  names_used r (in_flow i x e h same) l =
      or_left by_flows _ (used_by s n flow_entry (λ x. x.node) (numbered (cut_flow k) (rows s flows)) i x (flow_cut k chosen s i ∙ passing_stays (λ x. k (KeptElement x.port)) (flow_at s i) x e h) (ap (rests s (ThatNode n)) same ∙ l))
  names_used r (in_guard t y e h same) l =
      or_right by_flows _ (or_left by_guards _
      (used_by s n transition_entry (λ x. x.guard) (numbered (cut_transition k) (rows s transitions)) t (with_to k y) (transition_cut k chosen s t ∙ ap (option_map (with_to k)) (passing_stays (keeps_from k) (transition_at s t) y e h)) (ap (rests s (ThatNode n)) same ∙ l)))
  names_used r (in_setting i x y e t h d same) l =
      let kept = and_from (is (transition_at s x.transition) (keeps_from k)) (k (KeptElement x.element)) (is_from (transition_at s x.transition) (keeps_from k) y t h) d in
      or_right by_flows _ (or_right by_guards _ (or_left by_settings _
      (used_by s n setting_entry (λ x. x.node) (numbered (cut_setting k s) (rows s settings)) i x (setting_cut k chosen s i ∙ passing_stays (keeps_setting k s) (setting_at s i) x e kept) (ap (rests s (ThatNode n)) same ∙ l))))
  names_used r (in_question q x e h same) l =
      or_right by_flows _ (or_right by_guards _ (or_right by_settings _
      (used_by s n question_entry (λ x. x.node) (numbered (cut_question chosen) (rows s questions)) q x (question_cut k chosen s q ∙ passing_stays (λ x. chosen q) (question_at s q) x e h) (ap (rests s (ThatNode n)) same ∙ l))))
