-- The bits of the fields, by what is there.
use Rattle.std.specs.Prelude.{ℕ, Some, None, Option, Ok}
use Rattle.sheet.specs.declared.rows.Component.{Component}
use Rattle.sheet.specs.declared.rows.Element.{Element}
use Rattle.image.specs.Fields.{mode_bits, value_bits}

abbrev pub bits_of_mode : Option Component → ℕ
bits_of_mode None = 0
bits_of_mode (Some x) = mode_bits (Ok (Some x))

abbrev pub bits_of_value : Option Element → ℕ
bits_of_value None = 0
bits_of_value (Some x) = value_bits (Ok (Some x))
