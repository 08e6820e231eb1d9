-- What an open rig means, and what its maker promises.
use Rattle.std.specs.Prelude.{◌≡◌, Ok, Err, Result}
use Rattle.reader.specs.declared.accepted.AcceptedSheet.{AcceptedSheet}
use Rattle.reader.specs.Means.{rows_held}
use Rattle.rig.specs.Meaning.{Meaning}
use Rattle.running.specs.States.{StateOf, start_state}
use Rattle.sheet.specs.Sections.{Sheet}
use Rattle.open_rig.specs.declared.open.OpenRig.{OpenRig}
use Rattle.open_rig.specs.Tables.{rows_in, state_in}

abbrev pub rows_of : OpenRig → Sheet
rows_of x = rows_in x.tables

abbrev pub meaning_of : OpenRig → Meaning
meaning_of x = record { state = state_in x.tables }

-- there is a record for each component and element, with a mode or value that its row allows
abbrev pub Fits : OpenRig → Type 0
Fits x = StateOf (rows_of x) (state_in x.tables)

-- A rig of a sheet at its start.
pub record AtStart (s : Sheet) (x : OpenRig) : Type 0 where
  pub fits : Fits x
  pub rows : rows_of x ≡ s
  pub state : state_in x.tables ≡ start_state s

-- A rig of the sheet at its start, or for want of memory the sheet back.
abbrev pub MadeOf : AcceptedSheet → Result OpenRig AcceptedSheet → Type 0
MadeOf a (Ok x) = AtStart (rows_held a) x
MadeOf a (Err b) = b ≡ a
