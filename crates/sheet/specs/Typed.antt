-- What the bytes of a row say, section by section: blank, malformed, or a typed value.
use Rattle.std.specs.Prelude.{ℕ, zero, suc, ◌+◌, ◌*◌, ◌%◌, Bool, true, false, cond, not, ◌&&◌, ℤ, Some, None, Option, Result, ◌==◌, int_le, nat_le, slice_index, Err, Ok}
use Rattle.std.specs.Int.{w16}
use Rattle.std.proofs.Common.{to_z}
use Rattle.sheet.specs.Entry.{Entry, malformed}
use Rattle.sheet.specs.declared.rows.Component.{Component}
use Rattle.sheet.specs.declared.rows.Kind.{Kind}
use Rattle.sheet.specs.declared.rows.Kind.TheVariants.{Held, Port}
use Rattle.sheet.specs.declared.rows.Element.{Element}
use Rattle.sheet.specs.declared.rows.Direction.{Direction}
use Rattle.sheet.specs.declared.rows.Direction.TheVariants.{Out, In}
use Rattle.sheet.specs.declared.rows.Event.{Event}
use Rattle.sheet.specs.declared.rows.Malformed.{Malformed}
use Rattle.sheet.specs.declared.rows.Node.{Node}
use Rattle.sheet.specs.declared.rows.Node.TheVariants.{Constant, Element as Reading, Sum, Difference, True, Equal, Less, Not, And, InMode}
use Rattle.sheet.specs.declared.rows.Flow.{Flow}
use Rattle.sheet.specs.declared.rows.Connection.{Connection}
use Rattle.sheet.specs.declared.rows.Transition.{Transition}
use Rattle.sheet.specs.declared.rows.Setting.{Setting}
use Rattle.sheet.specs.declared.rows.Question.{Question}
use Rattle.sheet.specs.Sections.{Row}

-- a byte of a row
abbrev pub at : Row → ℕ → ℕ
at r k = slice_index r k

-- a number of two bytes in two's complement, the low byte first
abbrev pub number : ℕ → ℕ → ℤ
number low high = to_z w16 (low + high * 256)

-- a mode set of two bytes, the low byte first
abbrev pub mode_set : ℕ → ℕ → ℕ
mode_set low high = low + high * 256

-- each of the first n bytes is 0
abbrev pub zeros : ℕ → Row → Bool
zeros zero r = true
zeros (suc n) r = zeros n r && at r n == 0

-- the value, if the test is passed
abbrev pub holds_if : {X : Type 0} → Bool → X → Entry X
holds_if true x = Ok (Some x)
holds_if false x = Err malformed

-- a row of zeros is blank; what any other row holds is given
abbrev pub blank_or : {X : Type 0} → Bool → Entry X → Entry X
blank_or true e = Ok None
blank_or false e = e

-- A component: number of modes, from 1 to 15, and start mode. It is never blank.
abbrev pub component_entry : Row → Entry Component
component_entry r = holds_if (nat_le 1 (at r 0) && (nat_le (at r 0) 15 && nat_le (at r 1) (at r 0))) (record { modes = at r 0; start = at r 1 })

-- An element: kind (1 held, 2 port), component, lowest, highest and rest value. The rest value lies in the range.
abbrev pub element_of : Kind → ℕ → (lowest highest rest : ℤ) → Entry Element
element_of k c l h v = holds_if (int_le l v && int_le v h) (record { kind = k; component = c; lowest = l; highest = h; rest = v })

abbrev pub kind_numbered : ℕ → Result Kind Malformed
kind_numbered k = cond (k == 1) (Ok Held) (cond (k == 2) (Ok Port) (Err malformed))

abbrev pub element_by_kind : (kind component : ℕ) → (lowest highest rest : ℤ) → Entry Element
element_by_kind k c l h v = cond (k == 1) (element_of Held c l h v) (cond (k == 2) (element_of Port c l h v) (Err malformed))

abbrev pub element_entry : Row → Entry Element
element_entry r = blank_or (zeros 8 r) (element_by_kind (at r 0) (at r 1) (number (at r 2) (at r 3)) (number (at r 4) (at r 5)) (number (at r 6) (at r 7)))

-- An event: direction (1 out, 2 in) and component.
abbrev pub direction_numbered : ℕ → Result Direction Malformed
direction_numbered d = cond (d == 1) (Ok Out) (cond (d == 2) (Ok In) (Err malformed))

abbrev pub event_by_direction : (direction component : ℕ) → Entry Event
event_by_direction d c = cond (d == 1) (Ok (Some (record { direction = Out; component = c }))) (cond (d == 2) (Ok (Some (record { direction = In; component = c }))) (Err malformed))

abbrev pub event_entry : Row → Entry Event
event_entry r = blank_or (zeros 2 r) (event_by_direction (at r 0) (at r 1))

-- A node: kind and three operand bytes, of which the unused ones are 0.
abbrev pub node_by_kind : (kind a b c : ℕ) → Entry Node
node_by_kind kind a b c =
    cond (kind == 1) (holds_if (c == 0) (Constant (number a b)))
    (cond (kind == 2) (holds_if (b == 0 && c == 0) (Reading a))
    (cond (kind == 3) (holds_if (c == 0) (Sum a b))
    (cond (kind == 4) (holds_if (c == 0) (Difference a b))
    (cond (kind == 16) (holds_if (a == 0 && (b == 0 && c == 0)) True)
    (cond (kind == 17) (holds_if (c == 0) (Equal a b))
    (cond (kind == 18) (holds_if (c == 0) (Less a b))
    (cond (kind == 19) (holds_if (b == 0 && c == 0) (Not a))
    (cond (kind == 20) (holds_if (c == 0) (And a b))
    (cond (kind == 21) (holds_if (nat_le 1 b && c == 0) (InMode a b)) (Err malformed))))))))))

abbrev pub node_entry : Row → Entry Node
node_entry r = blank_or (zeros 4 r) (node_by_kind (at r 0) (at r 1) (at r 2) (at r 3))

-- a mode set of a row that is not blank: not empty, and without mode 0
abbrev pub listing : ℕ → Bool
listing set = not (set == 0) && (set % 2) == 0

-- A flow: port, node and mode set.
abbrev pub flow_of : (port node modes : ℕ) → Entry Flow
flow_of p n m = holds_if (listing m) (record { port = p; node = n; modes = m })

abbrev pub flow_entry : Row → Entry Flow
flow_entry r = blank_or (zeros 4 r) (flow_of (at r 0) (at r 1) (mode_set (at r 2) (at r 3)))

-- A connection: out event, in event, owner and mode set.
abbrev pub connection_of : (out into owner modes : ℕ) → Entry Connection
connection_of o i w m = holds_if (listing m) (record { out_event = o; in_event = i; owner = w; modes = m })

abbrev pub connection_entry : Row → Entry Connection
connection_entry r = blank_or (zeros 5 r) (connection_of (at r 0) (at r 1) (at r 2) (mode_set (at r 3) (at r 4)))

-- A transition: component, from mode (not 0), to mode, event (255 for none) and guard.
abbrev pub event_named : ℕ → Option ℕ
event_named v = cond (v == 255) None (Some v)

abbrev pub transition_of : (component from to event guard : ℕ) → Entry Transition
transition_of c f t v g = holds_if (nat_le 1 f) (record { component = c; from = f; to = t; event = event_named v; guard = g })

abbrev pub transition_entry : Row → Entry Transition
transition_entry r = blank_or (zeros 5 r) (transition_of (at r 0) (at r 1) (at r 2) (at r 3) (at r 4))

-- A setting: transition, element and node. It is blank as FF 00 00, and never faulty by itself.
abbrev pub setting_entry : Row → Entry Setting
setting_entry r = blank_or (at r 0 == 255 && (at r 1 == 0 && at r 2 == 0)) (Ok (Some (record { transition = at r 0; element = at r 1; node = at r 2 })))

-- A question: node. It is blank as FF, and never faulty by itself.
abbrev pub question_entry : Row → Entry Question
question_entry r = blank_or (at r 0 == 255) (Ok (Some (record { node = at r 0 })))
