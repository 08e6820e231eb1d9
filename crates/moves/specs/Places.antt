-- What can be set in a state, and states with all their modes or all their values set.
use Rattle.std.specs.Prelude.{◌≡◌, ℕ, Bool, false, not, ◌&&◌, List, length, ℤ, pos, Some, None, Option}
use Rattle.sheet.specs.Lookup.{element_at, is}
use Rattle.sheet.specs.Rules.{is_port}
use Rattle.sheet.specs.Sections.{Sheet, rows, components, elements}
use Rattle.running.specs.States.{State, held_of, in_range, is_held, with_value, start_state}

-- element e is held, and v lies in its range
abbrev pub can_hold : Sheet → ℕ → ℤ → Bool
can_hold s e v = is (element_at s e) (λ x. not (is_port x) && in_range x v)

-- There is a place for each component and element of the sheet, with 0 where nothing is held. Modes and values may be any.
pub record Placed (s : Sheet) (w : State) : Type 0 where
  pub modes_long : length w.modes ≡ length (rows s components)
  pub held_long : length w.held ≡ length (rows s elements)
  pub nothing_else : (e : ℕ) → is_held s e ≡ false → held_of w e ≡ pos 0

-- the state with a value for element e, if there is one to be set
abbrev pub with_some_value : State → ℕ → Option ℤ → State
with_some_value w e None = w
with_some_value w e (Some v) = with_value w e v

abbrev pub with_modes : State → List ℕ → State
with_modes w ms = record { modes = ms; held = w.held }

abbrev pub with_values : State → List ℤ → State
with_values w vs = record { modes = w.modes; held = vs }

-- all modes, or all values, as at the start
abbrev pub at_start_modes : Sheet → State → State
at_start_modes s w = with_modes w (start_state s).modes

abbrev pub at_start_values : Sheet → State → State
at_start_values s w = with_values w (start_state s).held
