-- What a node rests on: itself, the element or mode that it names, and all that its operand nodes rest on. It does not
-- go on from a port to the port's flows.
use Rattle.std.specs.Prelude.{◌≡◌, ℕ, Bool, true, false, ◌&&◌, ◌||◌, List, [], ◌∷◌, Some, ◌==◌, nat_eq, nat_le, slice_index_or}
use Rattle.sheet.specs.declared.rows.Node.{Node}
use Rattle.sheet.specs.declared.rows.Node.TheVariants.{Constant, Element as Reading, Sum, Difference, True, Equal, Less, Not, And, InMode}
use Rattle.sheet.specs.declared.rows.Target.{Target}
use Rattle.sheet.specs.declared.rows.Target.TheVariants.{Node as ThatNode, Element as ThatElement, ElementFrom, Mode, AnyMode}
use Rattle.sheet.specs.Sections.{Row, Sheet, rows, nodes}
use Rattle.sheet.specs.Tables.{grow, cell}
use Rattle.sheet.specs.Typed.{node_entry}
use Rattle.sheet.specs.Lookup.{there, is}

-- the operand nodes
abbrev pub operands : Node → List ℕ
operands (Constant v) = []
operands (Reading e) = []
operands (Sum a b) = a ∷ b ∷ []
operands (Difference a b) = a ∷ b ∷ []
operands True = []
operands (Equal a b) = a ∷ b ∷ []
operands (Less a b) = a ∷ b ∷ []
operands (Not a) = a ∷ []
operands (And a b) = a ∷ b ∷ []
operands (InMode c m) = []

-- the element that a node names passes the test
abbrev pub element_named : (ℕ → Bool) → Node → Bool
element_named p (Constant v) = false
element_named p (Reading e) = p e
element_named p (Sum a b) = false
element_named p (Difference a b) = false
element_named p True = false
element_named p (Equal a b) = false
element_named p (Less a b) = false
element_named p (Not a) = false
element_named p (And a b) = false
element_named p (InMode c m) = false

-- the mode of a component that a node names passes the test
abbrev pub mode_named : (ℕ → ℕ → Bool) → Node → Bool
mode_named p (Constant v) = false
mode_named p (Reading e) = false
mode_named p (Sum a b) = false
mode_named p (Difference a b) = false
mode_named p True = false
mode_named p (Equal a b) = false
mode_named p (Less a b) = false
mode_named p (Not a) = false
mode_named p (And a b) = false
mode_named p (InMode c m) = p c m

-- node number n, which is x, is the target or names it
abbrev pub hits : Target → ℕ → Node → Bool
hits (ThatNode i) n x = n == i
hits (ThatElement e) n x = element_named (λ d. nat_eq d e) x
hits (ElementFrom e) n x = element_named (λ d. nat_le e d) x
hits (Mode c m) n x = mode_named (λ d k. (d == c) && k == m) x
hits AnyMode n x = mode_named (λ d k. true) x

-- one of the numbers is marked
abbrev pub any_marked : List Bool → List ℕ → Bool
any_marked marks [] = false
any_marked marks (o ∷ os) = slice_index_or marks o false || any_marked marks os

-- the mark of node n, from the marks of the nodes before it
abbrev pub mark : List Row → Target → ℕ → List Bool → Bool
mark ns t n marks = is (there node_entry ns n) (λ x. hits t n x || any_marked marks (operands x))

-- The marks of the first n nodes, each worked out once.
abbrev pub marks : List Row → Target → ℕ → List Bool
marks ns t n = grow (mark ns t) n

-- Node n rests on the target.
abbrev pub rests : Sheet → Target → ℕ → Bool
rests s t n = cell (mark (rows s nodes) t) n

-- ---- what resting means

abbrev pub among : ℕ → List ℕ → Bool
among o [] = false
among o (a ∷ os) = o == a || among o os

-- From node n one comes to node m by going from nodes to their operands.
pub data Reaches (ns : List Row) : ℕ → ℕ → Type 0 where
  itself : {n : ℕ} → Reaches ns n n
  through : {n o m : ℕ} {x : Node} → there node_entry ns n ≡ Some x → among o (operands x) ≡ true → Reaches ns o m → Reaches ns n m

-- Node n rests on the target: it reaches a node that is the target or names it.
pub record RestsOn (ns : List Row) (t : Target) (n : ℕ) : Type 0 where
  pub node : ℕ
  pub value : Node
  pub reached : Reaches ns n node
  pub stands : there node_entry ns node ≡ Some value
  pub hit : hits t node value ≡ true
