-- Rows, sections and sheets as lists of bytes, and the table of the nine sections.
use Rattle.std.specs.Prelude.{ℕ, Bool, true, false, ◌&&◌, List, [], ◌∷◌, length, get_or, ◌==◌, nat_le, nat_lt, slice_index_or}
use Rattle.std.specs.List.{flat_map}

abbrev pub Row : Type 0
Row = List ℕ

-- A sheet is nine sections of rows.
abbrev pub Sheet : Type 0
Sheet = List (List Row)

-- the numbers of the sections
abbrev pub components : ℕ
components = 0

abbrev pub elements : ℕ
elements = 1

abbrev pub events : ℕ
events = 2

abbrev pub nodes : ℕ
nodes = 3

abbrev pub flows : ℕ
flows = 4

abbrev pub connections : ℕ
connections = 5

abbrev pub transitions : ℕ
transitions = 6

abbrev pub settings : ℕ
settings = 7

abbrev pub questions : ℕ
questions = 8

-- the rows of a section; none where there is no such section
abbrev pub rows : Sheet → ℕ → List Row
rows s k = slice_index_or s k []

-- A section's shape: the bytes of a row, and the least and the most rows.
pub record Shape : Type 0 where
  pub width : ℕ
  pub least : ℕ
  pub most : ℕ

abbrev pub shape : ℕ → ℕ → ℕ → Shape
shape w l m = record { width = w; least = l; most = m }

-- the shapes of the nine sections, in their order
abbrev pub shapes : List Shape
shapes = shape 2 1 16 ∷ shape 8 0 64 ∷ shape 2 0 64 ∷ shape 4 0 128 ∷ shape 4 0 64 ∷ shape 5 0 64 ∷ shape 5 0 64 ∷ shape 3 0 128 ∷ shape 1 0 16 ∷ []

-- each number is a byte
abbrev pub bytes : List ℕ → Bool
bytes [] = true
bytes (b ∷ bs) = nat_lt b 256 && bytes bs

-- each row has w bytes
abbrev pub wide : ℕ → List Row → Bool
wide w [] = true
wide w (r ∷ rs) = (length r == w && bytes r) && wide w rs

abbrev pub fits_shape : Shape → List Row → Bool
fits_shape h rs = nat_le h.least (length rs) && (nat_le (length rs) h.most && wide h.width rs)

-- the sections have the shapes, one by one
abbrev pub shaped : List Shape → Sheet → Bool
shaped [] [] = true
shaped [] (rs ∷ s) = false
shaped (h ∷ hs) [] = false
shaped (h ∷ hs) (rs ∷ s) = fits_shape h rs && shaped hs s

-- rows one after the other
abbrev pub strung : List Row → List ℕ
strung rs = flat_map (λ r. r) rs

-- the bytes of a section: its number of rows, then its rows
abbrev pub section_bytes : List Row → List ℕ
section_bytes rs = length rs ∷ strung rs

-- The bytes of a sheet: those of its sections.
abbrev pub bytes_of : Sheet → List ℕ
bytes_of s = flat_map section_bytes s

-- the bytes of a row of a section
abbrev pub width_of : ℕ → ℕ
width_of k = (get_or shapes k (shape 0 0 0)).width
