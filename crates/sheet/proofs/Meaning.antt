-- Rows are accepted exactly where they keep the rules.
use Rattle.std.proofs.Common.{◌≡◌, ℕ, ◌<◌, ◌≤◌, true, not, List, [], length, get_or, is_some, Some, None, sym, refl, ap, ◌∙◌, ⊎_elim, Err, Ok}
use Rattle.std.proofs.lemmas.Option.{slice_get-get_or}
use Rattle.std.proofs.lemmas.Bool.{and_parts, and_from, cases_lt}
use Rattle.sheet.specs.Entry.{Entry, malformed}
use Rattle.sheet.specs.declared.refusal.Reason.TheVariants.{WrongByItself, WrongByReference, Clash, ForbiddenResting}
use Rattle.sheet.specs.Sections.{Row, Sheet, rows, shapes, shaped, components, elements, events, nodes, flows, connections, transitions, settings, questions}
use Rattle.sheet.specs.Tries.{must, first_fault}
use Rattle.sheet.specs.Typed.{component_entry, element_entry, event_entry, node_entry, flow_entry, connection_entry, transition_entry, setting_entry, question_entry}
use Rattle.sheet.specs.Lookup.{held, read_by, there}
use Rattle.sheet.specs.Rules.{Checks, component_checks, element_checks, event_checks, node_checks, flow_checks, connection_checks, transition_checks, setting_checks, question_checks}
use Rattle.sheet.specs.Accept.{refusal, entry_tries, rows_tries, sheet_tries, accepted}
use Rattle.sheet.specs.Laws.{Passes, Right, KeepsTheRules}
use Rattle.sheet.proofs.Acceptance.{none_passes, passes_none}
use Rattle.sheet.proofs.Firsts.{no_pass, or_else_parts, first_parts, first_both, each_pass, each_passed}
use Rattle.sheet.proofs.Layouts.{must_passed, must_pass}
use Rattle.sheet.proofs.Lookups.{there_past}

-- what is there is within the section, and its row holds it
pub there_inside : {X : Type 0} (entry : Row → Entry X) (rs : List Row) (i : ℕ) (x : X) → there entry rs i ≡ Some x → (i < length rs) × (held (entry (get_or rs i [])) ≡ Some x)
there_inside entry rs i x e =
    ⊎_elim
    (λ (l : i < length rs). (l, sym (ap (read_by entry) (slice_get-get_or rs i [] l)) ∙ e))
    (λ (l : length rs ≤ i). no_pass x (sym e ∙ there_past entry rs i l))
    (cases_lt i (length rs))

pub held_holds : {X : Type 0} (e : Entry X) (x : X) → held e ≡ Some x → e ≡ Ok (Some x)
held_holds (Ok None) x h = no_pass x (sym h)
held_holds (Err _) x h = no_pass x (sym h)
held_holds (Ok (Some y)) x h = cc

-- ---- one row

module _ {X : Type 0} (s i : ℕ) (checks : X → Checks) where
  row_not_faulty : (e : Entry X) → first_fault (entry_tries s i checks e) ≡ None → e ≡ Err malformed → ⊥
  row_not_faulty e h f = no_pass (refusal WrongByItself s i) (sym (ap (λ e. first_fault (entry_tries s i checks e)) f) ∙ h)

  row_passes : (e : Entry X) (x : X) → first_fault (entry_tries s i checks e) ≡ None → e ≡ Ok (Some x) → Passes (checks x)
  row_passes e x h f =
      let all : first_fault (entry_tries s i checks (Ok (Some x))) ≡ None = sym (ap (λ e. first_fault (entry_tries s i checks e)) f) ∙ h in
      let a = or_else_parts (must (checks x).names_right (refusal WrongByReference s i)) _ all in
      let b = or_else_parts (must (checks x).clash_free (refusal Clash s i)) _ a.1 in
      let c = or_else_parts (must (checks x).rests_right (refusal ForbiddenResting s i)) None b.1 in
      record {
        names_right = must_passed (checks x).names_right _ a.0;
        clash_free = must_passed (checks x).clash_free _ b.0;
        rests_right = must_passed (checks x).rests_right _ c.0;
      }

  row_right : (e : Entry X) → (e ≡ Err malformed → ⊥) → ((x : X) → e ≡ Ok (Some x) → Passes (checks x)) → first_fault (entry_tries s i checks e) ≡ None
  row_right (Ok None) n p = refl
  row_right (Err _) n p = absurd (n refl)
  row_right (Ok (Some x)) n p =
      let q = p x refl in
      rw (must_pass (checks x).names_right (refusal WrongByReference s i) q.names_right, must_pass (checks x).clash_free (refusal Clash s i) q.clash_free, must_pass (checks x).rests_right (refusal ForbiddenResting s i) q.rests_right)

-- ---- one section

module _ {X : Type 0} (s : ℕ) (entry : Row → Entry X) (checks : ℕ → X → Checks) (rs : List Row) where
  section_right : first_fault (rows_tries s entry checks rs) ≡ None → Right entry checks rs
  section_right h =
      let at : (i : ℕ) → i < length rs → first_fault (entry_tries s i (checks i) (entry (get_or rs i []))) ≡ None = λ i l. each_passed (λ i. entry_tries s i (checks i) (entry (get_or rs i []))) (length rs) i h l in
      record {
        not_faulty = λ i l f. row_not_faulty s i (checks i) (entry (get_or rs i [])) (at i l) f;
        passes = λ i x e. let p = there_inside entry rs i x e in row_passes s i (checks i) (entry (get_or rs i [])) x (at i p.0) (held_holds (entry (get_or rs i [])) x p.1);
      }

  right_section : Right entry checks rs → first_fault (rows_tries s entry checks rs) ≡ None
  right_section r =
      each_pass (λ i. entry_tries s i (checks i) (entry (get_or rs i []))) (length rs) (λ i l.
      row_right s i (checks i) (entry (get_or rs i [])) (r.not_faulty i l) (λ x f. r.passes i x (ap (read_by entry) (slice_get-get_or rs i [] l) ∙ ap held f)))

-- ---- the sheet

pub keeps_the_rules : (s : Sheet) → accepted s ≡ true → KeepsTheRules s
unfolding sheet_tries
keeps_the_rules s a =
    let p = and_parts (shaped shapes s) (not (is_some (first_fault (sheet_tries s)))) a in
    let e0 = first_parts (rows_tries components component_entry (component_checks s) (rows s components)) _ (passes_none (first_fault (sheet_tries s)) p.1) in
    let e1 = first_parts (rows_tries elements element_entry (element_checks s) (rows s elements)) _ e0.1 in
    let e2 = first_parts (rows_tries events event_entry (event_checks s) (rows s events)) _ e1.1 in
    let e3 = first_parts (rows_tries nodes node_entry (node_checks s) (rows s nodes)) _ e2.1 in
    let e4 = first_parts (rows_tries flows flow_entry (flow_checks s) (rows s flows)) _ e3.1 in
    let e5 = first_parts (rows_tries connections connection_entry (connection_checks s) (rows s connections)) _ e4.1 in
    let e6 = first_parts (rows_tries transitions transition_entry (transition_checks s) (rows s transitions)) _ e5.1 in
    let e7 = first_parts (rows_tries settings setting_entry (setting_checks s) (rows s settings)) (rows_tries questions question_entry (question_checks s) (rows s questions)) e6.1 in
    record {
      shapes_kept = p.0;
      components_right = section_right components component_entry (component_checks s) (rows s components) e0.0;
      elements_right = section_right elements element_entry (element_checks s) (rows s elements) e1.0;
      events_right = section_right events event_entry (event_checks s) (rows s events) e2.0;
      nodes_right = section_right nodes node_entry (node_checks s) (rows s nodes) e3.0;
      flows_right = section_right flows flow_entry (flow_checks s) (rows s flows) e4.0;
      connections_right = section_right connections connection_entry (connection_checks s) (rows s connections) e5.0;
      transitions_right = section_right transitions transition_entry (transition_checks s) (rows s transitions) e6.0;
      settings_right = section_right settings setting_entry (setting_checks s) (rows s settings) e7.0;
      questions_right = section_right questions question_entry (question_checks s) (rows s questions) e7.1;
    }

pub rules_kept : (s : Sheet) → KeepsTheRules s → accepted s ≡ true
unfolding sheet_tries
rules_kept s k =
    and_from (shaped shapes s) (not (is_some (first_fault (sheet_tries s)))) k.shapes_kept (none_passes (first_fault (sheet_tries s))
    (first_both (rows_tries components component_entry (component_checks s) (rows s components)) _ (right_section components component_entry (component_checks s) (rows s components) k.components_right)
    (first_both (rows_tries elements element_entry (element_checks s) (rows s elements)) _ (right_section elements element_entry (element_checks s) (rows s elements) k.elements_right)
    (first_both (rows_tries events event_entry (event_checks s) (rows s events)) _ (right_section events event_entry (event_checks s) (rows s events) k.events_right)
    (first_both (rows_tries nodes node_entry (node_checks s) (rows s nodes)) _ (right_section nodes node_entry (node_checks s) (rows s nodes) k.nodes_right)
    (first_both (rows_tries flows flow_entry (flow_checks s) (rows s flows)) _ (right_section flows flow_entry (flow_checks s) (rows s flows) k.flows_right)
    (first_both (rows_tries connections connection_entry (connection_checks s) (rows s connections)) _ (right_section connections connection_entry (connection_checks s) (rows s connections) k.connections_right)
    (first_both (rows_tries transitions transition_entry (transition_checks s) (rows s transitions)) _ (right_section transitions transition_entry (transition_checks s) (rows s transitions) k.transitions_right)
    (first_both (rows_tries settings setting_entry (setting_checks s) (rows s settings)) (rows_tries questions question_entry (question_checks s) (rows s questions)) (right_section settings setting_entry (setting_checks s) (rows s settings) k.settings_right)
    (right_section questions question_entry (question_checks s) (rows s questions) k.questions_right))))))))))
