-- What makes a row right that is neither blank nor faulty by itself: what it names is there and fits, it does not clash
-- with an earlier row, and it rests on nothing forbidden.
use Rattle.std.specs.Prelude.{ℕ, zero, suc, ◌+◌, ◌^◌, Bool, true, false, not, ◌&&◌, ◌||◌, ltb, List, is_some, Some, None, Option, ◌==◌, bit_and, nat_eq, nat_le, nat_lt}
use Rattle.sheet.specs.Entry.{Entry}
use Rattle.sheet.specs.declared.rows.Component.{Component}
use Rattle.sheet.specs.declared.rows.Kind.{Kind}
use Rattle.sheet.specs.declared.rows.Kind.TheVariants.{Held, Port}
use Rattle.sheet.specs.declared.rows.Element.{Element}
use Rattle.sheet.specs.declared.rows.Direction.{Direction}
use Rattle.sheet.specs.declared.rows.Direction.TheVariants.{Out, In}
use Rattle.sheet.specs.declared.rows.Event.{Event}
use Rattle.sheet.specs.declared.rows.Node.{Node}
use Rattle.sheet.specs.declared.rows.Node.TheVariants.{Constant, Element as Reading, Sum, Difference, True, Equal, Less, Not, And, InMode}
use Rattle.sheet.specs.declared.rows.Flow.{Flow}
use Rattle.sheet.specs.declared.rows.Connection.{Connection}
use Rattle.sheet.specs.declared.rows.Transition.{Transition}
use Rattle.sheet.specs.declared.rows.Setting.{Setting}
use Rattle.sheet.specs.declared.rows.Question.{Question}
use Rattle.sheet.specs.declared.rows.Target.TheVariants.{ElementFrom, AnyMode}
use Rattle.sheet.specs.Sections.{Row, Sheet, rows, flows, settings}
use Rattle.sheet.specs.Typed.{flow_entry, setting_entry}
use Rattle.sheet.specs.Lookup.{there, component_at, element_at, event_at, node_at, transition_at, is}
use Rattle.sheet.specs.Resting.{rests}

-- The three tests of a row.
pub record Checks : Type 0 where
  pub names_right : Bool
  pub clash_free : Bool
  pub rests_right : Bool

abbrev pub only_names : Bool → Checks
only_names b = record { names_right = b; clash_free = true; rests_right = true }

-- ---- what a row can name

abbrev pub has_component : Sheet → ℕ → Bool
has_component s c = is_some (component_at s c)

-- component c has mode m, or m is 0
abbrev pub has_mode : Sheet → ℕ → ℕ → Bool
has_mode s c m = is (component_at s c) (λ x. nat_le m x.modes)

-- component c has each mode of the set
abbrev pub has_modes : Sheet → ℕ → ℕ → Bool
has_modes s c set = is (component_at s c) (λ x. ltb set (2 ^ (x.modes + 1)))

abbrev pub gives_value : Node → Bool
gives_value (Constant v) = true
gives_value (Reading e) = true
gives_value (Sum a b) = true
gives_value (Difference a b) = true
gives_value True = false
gives_value (Equal a b) = false
gives_value (Less a b) = false
gives_value (Not a) = false
gives_value (And a b) = false
gives_value (InMode c m) = false

abbrev pub value_node : Sheet → ℕ → Bool
value_node s n = is (node_at s n) gives_value

abbrev pub condition_node : Sheet → ℕ → Bool
condition_node s n = is (node_at s n) (λ x. not (gives_value x))

abbrev pub of_port : Kind → Bool
of_port Held = false
of_port Port = true

abbrev pub is_port : Element → Bool
is_port x = of_port x.kind

abbrev pub outward : Direction → Bool
outward Out = true
outward In = false

abbrev pub goes_out : Event → Bool
goes_out x = outward x.direction

-- the test holds of a number below n
abbrev pub any_below : ℕ → (ℕ → Bool) → Bool
any_below zero p = false
any_below (suc n) p = any_below n p || p n

-- row i of a section, which holds x, clashes with no earlier row
abbrev pub clear_of_earlier : {X : Type 0} → (Row → Entry X) → (earlier_clash : X → X → Bool) → List Row → ℕ → X → Bool
clear_of_earlier entry clash rs i x = not (any_below i (λ j. is (there entry rs j) (λ y. clash y x)))

-- ---- the rules, section by section

abbrev pub component_checks : Sheet → ℕ → Component → Checks
component_checks s i x = only_names true

abbrev pub element_checks : Sheet → ℕ → Element → Checks
element_checks s i x = only_names (has_component s x.component)

abbrev pub event_checks : Sheet → ℕ → Event → Checks
event_checks s i x = only_names (has_component s x.component)

-- node a is a value node with a lower number than i
abbrev pub lower_value : Sheet → ℕ → ℕ → Bool
lower_value s i a = nat_lt a i && value_node s a

abbrev pub lower_condition : Sheet → ℕ → ℕ → Bool
lower_condition s i a = nat_lt a i && condition_node s a

abbrev pub node_names : Sheet → ℕ → Node → Bool
node_names s i (Constant v) = true
node_names s i (Reading e) = is_some (element_at s e)
node_names s i (Sum a b) = lower_value s i a && lower_value s i b
node_names s i (Difference a b) = lower_value s i a && lower_value s i b
node_names s i True = true
node_names s i (Equal a b) = lower_value s i a && lower_value s i b
node_names s i (Less a b) = lower_value s i a && lower_value s i b
node_names s i (Not a) = lower_condition s i a
node_names s i (And a b) = lower_condition s i a && lower_condition s i b
node_names s i (InMode c m) = has_mode s c m

abbrev pub node_checks : Sheet → ℕ → Node → Checks
node_checks s i x = only_names (node_names s i x)

-- the two sets share a mode
abbrev pub share_mode : ℕ → ℕ → Bool
share_mode x y = not (bit_and x y == 0)

-- two flows to one port that share a mode
abbrev pub flows_clash : Flow → Flow → Bool
flows_clash x y = x.port == y.port && share_mode x.modes y.modes

abbrev pub flow_names : Sheet → Flow → Bool
flow_names s x = is (element_at s x.port) (λ p. is_port p && has_modes s p.component x.modes) && value_node s x.node

-- A flow leads from a value node to a port, in modes of the port's component. Two flows to one port share no mode. The
-- node rests only on elements with lower numbers than the port.
abbrev pub flow_checks : Sheet → ℕ → Flow → Checks
flow_checks s i x =
    record {
      names_right = flow_names s x;
      clash_free = clear_of_earlier flow_entry flows_clash (rows s flows) i x;
      rests_right = not (rests s (ElementFrom x.port) x.node);
    }

-- an out event and an in event of different components
abbrev pub leads : Option Event → Option Event → Bool
leads o v = is o (λ x. goes_out x && is v (λ y. not (goes_out y) && not (x.component == y.component)))

-- A connection leads from an out event to an in event of another component, in modes of its owner.
abbrev pub connection_checks : Sheet → ℕ → Connection → Checks
connection_checks s i x = only_names (leads (event_at s x.out_event) (event_at s x.in_event) && has_modes s x.owner x.modes)

-- there is no event, or it is one of component c
abbrev pub event_of : Sheet → ℕ → Option ℕ → Bool
event_of s c None = true
event_of s c (Some v) = is (event_at s v) (λ y. nat_eq y.component c)

-- A transition goes between modes of its component, by an event of that component or by none. Its guard is a condition
-- node that rests on no mode.
abbrev pub transition_checks : Sheet → ℕ → Transition → Checks
transition_checks s i x =
    record {
      names_right = has_mode s x.component x.from && (has_mode s x.component x.to && (event_of s x.component x.event && condition_node s x.guard));
      clash_free = true;
      rests_right = not (rests s AnyMode x.guard);
    }

-- a held element of the component of a transition
abbrev pub settable : Option Transition → Option Element → Bool
settable t e = is t (λ x. is e (λ y. not (is_port y) && y.component == x.component))

-- two settings of one element by one transition
abbrev pub settings_clash : Setting → Setting → Bool
settings_clash x y = x.transition == y.transition && x.element == y.element

-- A setting gives a held element of its transition's component the value of a value node. A transition sets an element
-- at most once.
abbrev pub setting_checks : Sheet → ℕ → Setting → Checks
setting_checks s i x =
    record {
      names_right = settable (transition_at s x.transition) (element_at s x.element) && value_node s x.node;
      clash_free = clear_of_earlier setting_entry settings_clash (rows s settings) i x;
      rests_right = true;
    }

-- A question is a condition node.
abbrev pub question_checks : Sheet → ℕ → Question → Checks
question_checks s i x = only_names (condition_node s x.node)
