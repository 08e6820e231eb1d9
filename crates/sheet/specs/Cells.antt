-- The counts and bytes of a sheet's rows.
use Rattle.std.specs.Prelude.{ℕ, [], length, Option, slice_index_or}
use Rattle.std.specs.Option.{option_map}
use Rattle.std.specs.List.{slice_get}
use Rattle.sheet.specs.Sections.{Sheet, rows}

-- the number of rows of a section, or nothing where there is no such section
abbrev pub count_of : Sheet → ℕ → Option ℕ
count_of s k = option_map length (slice_get s k)

-- one byte of a row, or nothing where there is none
abbrev pub byte_of : Sheet → (section row place : ℕ) → Option ℕ
byte_of s k i p = slice_get (slice_index_or (rows s k) i []) p
