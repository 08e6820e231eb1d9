-- What the tables of a packed rig mean.
use Rattle.std.specs.Prelude.{◌^◌, ◌<◌}
use Rattle.sheet.specs.Sections.{Sheet}
use Rattle.running.specs.States.{State}
use Rattle.image.specs.Bits.{number_of}
use Rattle.image.specs.Reading.{widths, total, state_read}
use Rattle.reader.specs.Means.{rows_held}
use Rattle.packed_rig.specs.declared.tables.Tables.{Tables}

abbrev pub rows_in : Tables → Sheet
rows_in x = rows_held x.sheet

-- the state that the bytes stand for
abbrev pub state_in : Tables → State
state_in x = state_read (rows_in x) x.state.bytes

-- the bits behind the fields are 0
abbrev pub Spare : Tables → Type 0
Spare x = number_of x.state.bytes < 2 ^ total (widths (rows_in x))
