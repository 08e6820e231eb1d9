-- The state that bytes stand for has a place for each component and element.
use Rattle.std.specs.Prelude.{◌≡◌, ℕ, ◌+◌, List, length}
use Rattle.std.proofs.Common.{◌∙◌}
use Rattle.image.specs.Bits.{number_of}
use Rattle.image.specs.Reading.{widths, numbers_in, state_read}
use Rattle.image.proofs.Changes.{value_nowhere}
use Rattle.image.proofs.Images.{length_widths, placed_from}
use Rattle.image.proofs.Layouts.{length_numbers}
use Rattle.moves.specs.Places.{Placed}
use Rattle.sheet.specs.Sections.{Sheet, rows, components, elements}

pub placed_bytes : (s : Sheet) (bytes : List ℕ) → Placed s (state_read s bytes)
placed_bytes s bytes =
    let n = number_of bytes in
    let ns = numbers_in (widths s) n in
    let long : length ns ≡ length (rows s components) + length (rows s elements) = length_numbers (widths s) n ∙ length_widths s in
    let p = placed_from s ns long in
    record { modes_long = p.modes_long; held_long = p.held_long; nothing_else = value_nowhere s ns long }
