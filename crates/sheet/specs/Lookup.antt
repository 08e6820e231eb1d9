-- The rows of a sheet by their numbers, as typed values. A row that is missing, blank or faulty is not there.
use Rattle.std.specs.Prelude.{ℕ, Bool, false, List, Some, None, Option, Err, Ok}
use Rattle.std.specs.List.{slice_get}
use Rattle.sheet.specs.Entry.{Entry}
use Rattle.sheet.specs.declared.rows.Component.{Component}
use Rattle.sheet.specs.declared.rows.Connection.{Connection}
use Rattle.sheet.specs.declared.rows.Element.{Element}
use Rattle.sheet.specs.declared.rows.Event.{Event}
use Rattle.sheet.specs.declared.rows.Node.{Node}
use Rattle.sheet.specs.declared.rows.Flow.{Flow}
use Rattle.sheet.specs.declared.rows.Setting.{Setting}
use Rattle.sheet.specs.declared.rows.Transition.{Transition}
use Rattle.sheet.specs.declared.rows.Question.{Question}
use Rattle.sheet.specs.Sections.{Row, Sheet, rows, components, elements, events, nodes, flows, connections, transitions, settings, questions}
use Rattle.sheet.specs.Typed.{component_entry, element_entry, event_entry, node_entry, flow_entry, connection_entry, transition_entry, setting_entry, question_entry}

-- what a row holds, if anything
abbrev pub held : {X : Type 0} → Entry X → Option X
held (Ok o) = o
held (Err f) = None

-- what a row holds that may be missing
abbrev pub read_by : {X : Type 0} → (Row → Entry X) → Option Row → Option X
read_by entry None = None
read_by entry (Some r) = held (entry r)

-- row i of a section
abbrev pub there : {X : Type 0} → (Row → Entry X) → List Row → ℕ → Option X
there entry rs i = read_by entry (slice_get rs i)

abbrev pub component_at : Sheet → ℕ → Option Component
component_at s i = there component_entry (rows s components) i

abbrev pub element_at : Sheet → ℕ → Option Element
element_at s i = there element_entry (rows s elements) i

abbrev pub event_at : Sheet → ℕ → Option Event
event_at s i = there event_entry (rows s events) i

abbrev pub node_at : Sheet → ℕ → Option Node
node_at s i = there node_entry (rows s nodes) i

abbrev pub transition_at : Sheet → ℕ → Option Transition
transition_at s i = there transition_entry (rows s transitions) i

abbrev pub flow_at : Sheet → ℕ → Option Flow
flow_at s i = there flow_entry (rows s flows) i

abbrev pub connection_at : Sheet → ℕ → Option Connection
connection_at s i = there connection_entry (rows s connections) i

abbrev pub setting_at : Sheet → ℕ → Option Setting
setting_at s i = there setting_entry (rows s settings) i

abbrev pub question_at : Sheet → ℕ → Option Question
question_at s i = there question_entry (rows s questions) i

-- it is there, and the test is passed
abbrev pub is : {X : Type 0} → Option X → (X → Bool) → Bool
is None p = false
is (Some x) p = p x
