-- Laws of images, for contracts to cite.
use Rattle.std.specs.Prelude.{◌≡◌, ◌≤◌, true, length}
use Rattle.sheet.specs.Accept.{accepted}
use Rattle.sheet.specs.Sections.{Sheet}
use Rattle.running.specs.States.{State, StateOf}
use Rattle.image.specs.Bits.{bytes_for}
use Rattle.image.specs.Fields.{image}
use Rattle.image.specs.Reading.{widths, total, state_read}

-- A state is read back from its image.
abbrev pub ImagesReadBack : Type 0
ImagesReadBack = (s : Sheet) (w : State) → accepted s ≡ true → StateOf s w → state_read s (image s w) ≡ w

-- Two states of a sheet with the same image are the same.
abbrev pub ImagesTellStates : Type 0
ImagesTellStates = (s : Sheet) (v w : State) → accepted s ≡ true → StateOf s v → StateOf s w → image s v ≡ image s w → v ≡ w

-- The length of an image is the sheet's alone, and at most 136.
pub record LengthOfImages (s : Sheet) : Type 0 where
  pub length_is : (w : State) → StateOf s w → length (image s w) ≡ bytes_for (total (widths s))
  pub at_most : bytes_for (total (widths s)) ≤ 136

abbrev pub LengthsBySheets : Type 0
LengthsBySheets = (s : Sheet) → accepted s ≡ true → LengthOfImages s
