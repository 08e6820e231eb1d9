-- Laws of a sheet that runs, for contracts to cite.
use Rattle.std.specs.Prelude.{◌≡◌, ℕ, true, false, not, ◌&&◌, ℤ, pos, is_ok, Some, None, Ok, Err, Decides, Result, ◌==◌, int_lt}
use Rattle.sheet.specs.declared.rows.Element.{Element}
use Rattle.sheet.specs.declared.rows.Flow.{Flow}
use Rattle.sheet.specs.declared.rows.Node.TheVariants.{Constant, Element as Reading, Sum, Difference, True, Equal, Less, Not, And, InMode}
use Rattle.sheet.specs.Accept.{accepted}
use Rattle.sheet.specs.Lookup.{there, element_at, node_at}
use Rattle.sheet.specs.Rules.{is_port}
use Rattle.sheet.specs.Sections.{Sheet, rows, flows}
use Rattle.sheet.specs.Tries.{AllPass, IsFirst}
use Rattle.sheet.specs.Typed.{flow_entry}
use Rattle.running.specs.declared.kinds.Step.{Step}
use Rattle.running.specs.declared.kinds.StepRefusal.{StepRefusal}
use Rattle.running.specs.declared.kinds.Worth.TheVariants.{Number, Truth}
use Rattle.running.specs.States.{State, mode_of, held_of, StateOf, start_state}
use Rattle.running.specs.Steps.{Possible, Reached, step_tries, step_state}
use Rattle.running.specs.Values.{bring, plus, minus, same_number, number_in, truth_in, nothing, lists, value_of, node_value}

-- The reply says that the step is made exactly where the step is possible.
abbrev pub MadeWhenPossible : Sheet → State → Step → Result (Unit {0}) StepRefusal → Type 0
MadeWhenPossible s w x r = Decides (is_ok r) (Possible s w x)

-- The reply names the first check that fails: every check passes, or the refusal's check fails and every earlier one passes.
abbrev pub NamesTheFirstCheck : Sheet → State → Step → Result (Unit {0}) StepRefusal → Type 0
NamesTheFirstCheck s w x (Ok y) = AllPass (step_tries s w x)
NamesTheFirstCheck s w x (Err f) = IsFirst (step_tries s w x) f

-- The start state of an accepted sheet is one of its states.
abbrev pub StartIsAState : Type 0
StartIsAState = (s : Sheet) → accepted s ≡ true → StateOf s (start_state s)

-- What is asked of an accepted sheet in one of its states leads to one of its states, whether the step is made or refused.
abbrev pub StepsKeepStates : Type 0
StepsKeepStates = (s : Sheet) (w : State) (x : Step) → accepted s ≡ true → StateOf s w → StateOf s (step_state s w x)

-- Whatever an accepted sheet reaches is one of its states.
abbrev pub ReachedAreStates : Type 0
ReachedAreStates = (s : Sheet) (w : State) → accepted s ≡ true → Reached s w → StateOf s w

-- ---- values

-- What each kind of node gives, from the values of elements, the modes and what its operand nodes give.
pub record NodeLaws (s : Sheet) (w : State) : Type 0 where
  pub constant : (n : ℕ) (z : ℤ) → node_at s n ≡ Some (Constant z) → node_value s w n ≡ Number z
  pub reading : (n e : ℕ) → node_at s n ≡ Some (Reading e) → node_value s w n ≡ Number (value_of s w e)
  pub sum : (n a b : ℕ) → node_at s n ≡ Some (Sum a b) → node_value s w n ≡ Number (plus (number_in (node_value s w a)) (number_in (node_value s w b)))
  pub difference : (n a b : ℕ) → node_at s n ≡ Some (Difference a b) → node_value s w n ≡ Number (minus (number_in (node_value s w a)) (number_in (node_value s w b)))
  pub truth : (n : ℕ) → node_at s n ≡ Some True → node_value s w n ≡ Truth true
  pub equal : (n a b : ℕ) → node_at s n ≡ Some (Equal a b) → node_value s w n ≡ Truth (same_number (number_in (node_value s w a)) (number_in (node_value s w b)))
  pub less : (n a b : ℕ) → node_at s n ≡ Some (Less a b) → node_value s w n ≡ Truth (int_lt (number_in (node_value s w a)) (number_in (node_value s w b)))
  pub negation : (n a : ℕ) → node_at s n ≡ Some (Not a) → node_value s w n ≡ Truth (not (truth_in (node_value s w a)))
  pub both : (n a b : ℕ) → node_at s n ≡ Some (And a b) → node_value s w n ≡ Truth (truth_in (node_value s w a) && truth_in (node_value s w b))
  pub in_mode : (n c m : ℕ) → node_at s n ≡ Some (InMode c m) → node_value s w n ≡ Truth (mode_of w c == m)
  pub no_node : (n : ℕ) → node_at s n ≡ None → node_value s w n ≡ nothing

-- Flow f leads to element e, which is x, and lists the mode of its component.
pub record FedBy (s : Sheet) (w : State) (e : ℕ) (x : Element) (f : Flow) : Type 0 where
  pub row : ℕ
  pub stands : there flow_entry (rows s flows) row ≡ Some f
  pub leads : f.port ≡ e
  pub listed : lists f.modes (mode_of w x.component) ≡ true

-- The values of elements: a held element has the value that the state holds. A port has its rest value while no flow
-- feeds it, and else the value of the flow's node in the same state, brought into the port's range.
pub record ElementLaws (s : Sheet) (w : State) : Type 0 where
  pub held_value : (e : ℕ) (x : Element) → element_at s e ≡ Some x → is_port x ≡ false → value_of s w e ≡ held_of w e
  pub rest_value : (e : ℕ) (x : Element) → element_at s e ≡ Some x → is_port x ≡ true → ((f : Flow) → FedBy s w e x f → ⊥) → value_of s w e ≡ x.rest
  pub fed_value : (e : ℕ) (x : Element) (f : Flow) → element_at s e ≡ Some x → FedBy s w e x f → value_of s w e ≡ bring x.lowest x.highest (number_in (node_value s w f.node))
  pub no_element : (e : ℕ) → element_at s e ≡ None → value_of s w e ≡ pos 0

-- The laws of values hold of an accepted sheet, at any modes and held values.
abbrev pub ValuesByLaws : Type 0
ValuesByLaws = (s : Sheet) (w : State) → accepted s ≡ true → NodeLaws s w × ElementLaws s w
