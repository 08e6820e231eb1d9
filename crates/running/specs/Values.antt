-- The values of elements and nodes in a state.
use Rattle.std.specs.Prelude.{ℕ, ◌/◌, ◌%◌, ◌^◌, Bool, true, false, cond, not, ◌&&◌, ◌||◌, List, [], ◌∷◌, length, ℤ, pos, negsuc, ◌+ℤ◌, ◌-ℤ◌, Some, None, Option, ◌==◌, int_lt, slice_index_or}
use Rattle.sheet.specs.declared.rows.Element.{Element}
use Rattle.sheet.specs.declared.rows.Flow.{Flow}
use Rattle.sheet.specs.declared.rows.Node.{Node}
use Rattle.sheet.specs.declared.rows.Node.TheVariants.{Constant, Element as Reading, Sum, Difference, True, Equal, Less, Not, And, InMode}
use Rattle.sheet.specs.Lookup.{held, element_at, node_at, is}
use Rattle.sheet.specs.Rules.{is_port}
use Rattle.sheet.specs.Sections.{Row, Sheet, rows, elements, flows}
use Rattle.sheet.specs.Tables.{grow, cell}
use Rattle.sheet.specs.Typed.{flow_entry}
use Rattle.running.specs.declared.kinds.Worth.{Worth}
use Rattle.running.specs.declared.kinds.Worth.TheVariants.{Number, Truth}
use Rattle.running.specs.States.{State, mode_of, held_of}

-- v brought to the nearer end of a range that it lies outside of
abbrev pub bring : (low high : ℤ) → ℤ → ℤ
bring low high v = cond (int_lt v low) low (cond (int_lt high v) high v)

-- the ends of the number range
abbrev pub least_number : ℤ
least_number = negsuc 32767

abbrev pub greatest_number : ℤ
greatest_number = pos 32767

abbrev pub plus : ℤ → ℤ → ℤ
plus a b = bring least_number greatest_number (a +ℤ b)

abbrev pub minus : ℤ → ℤ → ℤ
minus a b = bring least_number greatest_number (a -ℤ b)

abbrev pub same_number : ℤ → ℤ → Bool
same_number a b = not (int_lt a b || int_lt b a)

abbrev pub number_in : Worth → ℤ
number_in (Number z) = z
number_in (Truth b) = pos 0

abbrev pub truth_in : Worth → Bool
truth_in (Number z) = false
truth_in (Truth b) = b

-- what there is where no node is
abbrev pub nothing : Worth
nothing = Number (pos 0)

-- what a node gives in a state, from the values of the elements and what the nodes before it give
abbrev pub evaluated : State → (values : List ℤ) → (before : List Worth) → Node → Worth
evaluated w vs t (Constant z) = Number z
evaluated w vs t (Reading e) = Number (slice_index_or vs e (pos 0))
evaluated w vs t (Sum a b) = Number (plus (number_in (slice_index_or t a nothing)) (number_in (slice_index_or t b nothing)))
evaluated w vs t (Difference a b) = Number (minus (number_in (slice_index_or t a nothing)) (number_in (slice_index_or t b nothing)))
evaluated w vs t True = Truth true
evaluated w vs t (Equal a b) = Truth (same_number (number_in (slice_index_or t a nothing)) (number_in (slice_index_or t b nothing)))
evaluated w vs t (Less a b) = Truth (int_lt (number_in (slice_index_or t a nothing)) (number_in (slice_index_or t b nothing)))
evaluated w vs t (Not a) = Truth (not (truth_in (slice_index_or t a nothing)))
evaluated w vs t (And a b) = Truth (truth_in (slice_index_or t a nothing) && truth_in (slice_index_or t b nothing))
evaluated w vs t (InMode c m) = Truth (mode_of w c == m)

abbrev pub evaluated_if : State → List ℤ → List Worth → Option Node → Worth
evaluated_if w vs t None = nothing
evaluated_if w vs t (Some x) = evaluated w vs t x

-- node n, from the values of the elements and the nodes before it
abbrev pub node_cell : Sheet → State → List ℤ → ℕ → List Worth → Worth
node_cell s w vs n t = evaluated_if w vs t (node_at s n)

-- what node n gives over some values of the elements
abbrev pub node_over : Sheet → State → List ℤ → ℕ → Worth
node_over s w vs n = cell (node_cell s w vs) n

-- mode m is in the set
abbrev pub lists : ℕ → ℕ → Bool
lists set m = (set / 2 ^ m % 2) == 1

-- the flow leads to the port in the mode
abbrev pub feeds : (port mode : ℕ) → Option Flow → Bool
feeds p m f = is f (λ x. (x.port == p) && lists x.modes m)

-- the flow to a port that is in force in a mode of its component
abbrev pub in_force : List Row → (port mode : ℕ) → Option Flow
in_force [] p m = None
in_force (r ∷ rs) p m = cond (feeds p m (held (flow_entry r))) (held (flow_entry r)) (in_force rs p m)

-- a port has the value that the flow in force gives, brought into its range, or else its rest value
abbrev pub port_value : Element → Option Flow → (ℕ → ℤ) → ℤ
port_value x None node = x.rest
port_value x (Some f) node = bring x.lowest x.highest (node f.node)

abbrev pub element_value : Sheet → State → ℕ → List ℤ → Option Element → ℤ
element_value s w e t None = pos 0
element_value s w e t (Some x) = cond (is_port x) (port_value x (in_force (rows s flows) e (mode_of w x.component)) (λ n. number_in (node_over s w t n))) (held_of w e)

-- element e, from the values of the elements before it
abbrev pub element_cell : Sheet → State → ℕ → List ℤ → ℤ
element_cell s w e t = element_value s w e t (element_at s e)

-- The values of all elements: each from those before it.
abbrev pub values : Sheet → State → List ℤ
values s w = grow (element_cell s w) (length (rows s elements))

-- The value of element e in a state; 0 where there is none.
abbrev pub value_of : Sheet → State → ℕ → ℤ
value_of s w e = slice_index_or (values s w) e (pos 0)

-- What node n gives in a state.
abbrev pub node_value : Sheet → State → ℕ → Worth
node_value s w n = node_over s w (values s w) n
