-- Laws of acceptance that contracts cite.
use Rattle.std.specs.Prelude.{◌≡◌, ℕ, ◌<◌, true, List, [], length, Some, Ok, Err, Decides, Result, ◌≢◌, slice_index_or}
use Rattle.sheet.specs.Entry.{Entry, malformed}
use Rattle.sheet.specs.declared.refusal.Refusal.{Refusal}
use Rattle.sheet.specs.declared.rows.Target.{Target}
use Rattle.sheet.specs.Sections.{Row, Sheet, rows, shapes, shaped, components, elements, events, nodes, flows, connections, transitions, settings, questions, bytes_of}
use Rattle.sheet.specs.Typed.{component_entry, element_entry, event_entry, node_entry, flow_entry, connection_entry, transition_entry, setting_entry, question_entry}
use Rattle.sheet.specs.Lookup.{there}
use Rattle.sheet.specs.Resting.{rests, RestsOn}
use Rattle.sheet.specs.Rules.{Checks, component_checks, element_checks, event_checks, node_checks, flow_checks, connection_checks, transition_checks, setting_checks, question_checks}
use Rattle.sheet.specs.Tries.{AllPass, IsFirst}
use Rattle.sheet.specs.Accept.{tries, accept, accepted}

-- A verdict names the first fault: every try passes, or the refusal's try fails and every earlier one passes.
abbrev pub NamesTheFirstFault : {X : Type 0} → List ℕ → Result X Refusal → Type 0
NamesTheFirstFault bs (Ok x) = AllPass (tries bs)
NamesTheFirstFault bs (Err f) = IsFirst (tries bs) f

-- Writing what was read gives the same bytes, and what was read is accepted.
pub record WritesBack (bs : List ℕ) (s : Sheet) : Type 0 where
  pub same_bytes : bytes_of s ≡ bs
  pub accepts : accepted s ≡ true

-- Reading what was written gives the same sheet.
abbrev pub ReadsBack : Sheet → Type 0
ReadsBack s = accept (bytes_of s) ≡ Ok s

-- What a row holds passes its checks.
pub record Passes (c : Checks) : Type 0 where
  pub names_right : c.names_right ≡ true
  pub clash_free : c.clash_free ≡ true
  pub rests_right : c.rests_right ≡ true

-- The rows of a section keep its rules: none is faulty by itself, and what each row holds passes.
pub record Right {X : Type 0} (entry : Row → Entry X) (checks : ℕ → X → Checks) (rs : List Row) : Type 0 where
  pub not_faulty : (i : ℕ) → i < length rs → entry (slice_index_or rs i []) ≢ Err malformed
  pub passes : (i : ℕ) (x : X) → there entry rs i ≡ Some x → Passes (checks i x)

-- What acceptance means: the sections have their shapes, and each keeps its rules.
pub record KeepsTheRules (s : Sheet) : Type 0 where
  pub shapes_kept : shaped shapes s ≡ true
  pub components_right : Right component_entry (component_checks s) (rows s components)
  pub elements_right : Right element_entry (element_checks s) (rows s elements)
  pub events_right : Right event_entry (event_checks s) (rows s events)
  pub nodes_right : Right node_entry (node_checks s) (rows s nodes)
  pub flows_right : Right flow_entry (flow_checks s) (rows s flows)
  pub connections_right : Right connection_entry (connection_checks s) (rows s connections)
  pub transitions_right : Right transition_entry (transition_checks s) (rows s transitions)
  pub settings_right : Right setting_entry (setting_checks s) (rows s settings)
  pub questions_right : Right question_entry (question_checks s) (rows s questions)

-- Rows are accepted exactly where they keep the rules.
abbrev pub AcceptanceIsKeepingTheRules : Type 0
AcceptanceIsKeepingTheRules = (s : Sheet) → Decides (accepted s) (KeepsTheRules s)

-- A node's mark says whether it rests on the target.
abbrev pub RestingIsReaching : Sheet → Type 0
RestingIsReaching s = (t : Target) (n : ℕ) → Decides (rests s t n) (RestsOn (rows s nodes) t n)
