-- What the tables of an open rig mean.
use Rattle.std.specs.Prelude.{vec_items}
use Rattle.sheet.specs.Sections.{Sheet}
use Rattle.running.specs.States.{State}
use Rattle.reader.specs.Means.{rows_held}
use Rattle.open_rig.specs.Records.{state_of_records}
use Rattle.open_rig.specs.declared.tables.Tables.{Tables}

abbrev pub rows_in : Tables → Sheet
rows_in x = rows_held x.sheet

abbrev pub state_in : Tables → State
state_in x = state_of_records (vec_items x.components) (vec_items x.elements)
