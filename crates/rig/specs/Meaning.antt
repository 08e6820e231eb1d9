-- What a rig means, besides its rows, and what a call leaves of it.
use Rattle.std.specs.Prelude.{◌≡◌, true}
use Rattle.sheet.specs.Accept.{accepted}
use Rattle.sheet.specs.Sections.{Sheet}
use Rattle.running.specs.States.{State, StateOf}

-- What a rig means besides its rows: the state in which it stands.
pub record Meaning : Type 0 where
  pub state : State

-- the same with another state
abbrev pub with_state : Meaning → State → Meaning
with_state m w = record { state = w }

-- The rows are those of an accepted sheet, and the state is a state of it.
pub record Sound (s : Sheet) (m : Meaning) : Type 0 where
  pub accepts : accepted s ≡ true
  pub state_of : StateOf s m.state

-- After a call the rows are as before, and what the rig means is as before but for its state, which is w.
pub record Moved (rows_before rows_after : Sheet) (before after : Meaning) (w : State) : Type 0 where
  pub rows_kept : rows_after ≡ rows_before
  pub moved : after ≡ with_state before w
