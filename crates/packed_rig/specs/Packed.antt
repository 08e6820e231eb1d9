-- What a packed rig means, and what its maker promises.
use Rattle.std.specs.Prelude.{◌≡◌}
use Rattle.rig.specs.Meaning.{Meaning}
use Rattle.running.specs.States.{StateOf, start_state}
use Rattle.sheet.specs.Sections.{Sheet}
use Rattle.packed_rig.specs.declared.packed.PackedRig.{PackedRig}
use Rattle.packed_rig.specs.Tables.{rows_in, state_in, Spare}

abbrev pub rows_of : PackedRig → Sheet
rows_of x = rows_in x.tables

abbrev pub meaning_of : PackedRig → Meaning
meaning_of x = record { state = state_in x.tables }

-- The bits behind the fields are 0, and what the fields hold is a state of the sheet.
pub record Fits (x : PackedRig) : Type 0 where
  pub spare : Spare x.tables
  pub state_of : StateOf (rows_of x) (state_in x.tables)

-- A rig of a sheet at its start.
pub record AtStart (s : Sheet) (x : PackedRig) : Type 0 where
  pub fits : Fits x
  pub rows : rows_of x ≡ s
  pub state : state_in x.tables ≡ start_state s
