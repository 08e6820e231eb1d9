-- What the bytes of a row say: nothing where the row is blank, else a value; or that they are malformed.
use Rattle.std.specs.Prelude.{Option, Result}
use Rattle.sheet.specs.declared.rows.Malformed.{Malformed}

abbrev pub malformed : Malformed
malformed = record {}

abbrev pub Entry : Type 0 → Type 0
Entry X = Result (Option X) Malformed
