-- The sheets of the worked examples.
use Rattle.std.specs.Prelude.{ℕ, false, ◌&&◌, ◌||◌, List, [], ◌∷◌, ◌==◌}
use Rattle.sheet.specs.Sections.{Row, Sheet}
use Rattle.cutting.specs.declared.kinds.Thing.TheVariants.{Element as KeptElement, Event as KeptEvent, Mode as KeptMode}
use Rattle.cutting.specs.Kept.{Kept}

-- One component with one mode, where it starts, and eight empty sections: the smallest sheet.
abbrev pub smallest : List ℕ
smallest = 1 ∷ 1 ∷ 1 ∷ 0 ∷ 0 ∷ 0 ∷ 0 ∷ 0 ∷ 0 ∷ 0 ∷ 0 ∷ []

-- the same with one byte more
abbrev pub left_over : List ℕ
left_over = 1 ∷ 1 ∷ 1 ∷ 0 ∷ 0 ∷ 0 ∷ 0 ∷ 0 ∷ 0 ∷ 0 ∷ 0 ∷ 0 ∷ []

-- the same with a start mode above the number of modes
abbrev pub late_start : List ℕ
late_start = 1 ∷ 1 ∷ 2 ∷ 0 ∷ 0 ∷ 0 ∷ 0 ∷ 0 ∷ 0 ∷ 0 ∷ 0 ∷ []

-- The two-unit sheet: two components of two modes. Each has a held element; the first counts element 0 up to 3 by its
-- transitions between its modes, the second raises element 1. The question is whether element 0 equals 3.
abbrev pub two_unit : List ℕ
two_unit = 2 ∷ 2 ∷ 1 ∷ 2 ∷ 1 ∷ 2 ∷ 1 ∷ 0 ∷ 0 ∷ 0 ∷ 3 ∷ 0 ∷ 0 ∷ 0 ∷ 1 ∷ 1 ∷ 0 ∷ 0 ∷ 9 ∷ 0 ∷ 5 ∷ 0 ∷ 0 ∷ 8 ∷ 16 ∷ 0 ∷ 0 ∷ 0 ∷ 1 ∷ 1 ∷ 0 ∷ 0 ∷ 2 ∷ 0 ∷ 0 ∷ 0 ∷ 3 ∷ 2 ∷ 1 ∷ 0 ∷ 1 ∷ 3 ∷ 0 ∷ 0 ∷ 17 ∷ 2 ∷ 4 ∷ 0 ∷ 2 ∷ 1 ∷ 0 ∷ 0 ∷ 3 ∷ 6 ∷ 1 ∷ 0 ∷ 0 ∷ 0 ∷ 3 ∷ 0 ∷ 1 ∷ 2 ∷ 255 ∷ 0 ∷ 0 ∷ 2 ∷ 1 ∷ 255 ∷ 0 ∷ 1 ∷ 1 ∷ 2 ∷ 255 ∷ 0 ∷ 2 ∷ 1 ∷ 0 ∷ 3 ∷ 2 ∷ 1 ∷ 7 ∷ 1 ∷ 5 ∷ []

abbrev pub two_unit_components : List Row
two_unit_components = ((2 ∷ 1 ∷ []) ∷ (2 ∷ 1 ∷ []) ∷ [])

abbrev pub two_unit_elements : List Row
two_unit_elements = ((1 ∷ 0 ∷ 0 ∷ 0 ∷ 3 ∷ 0 ∷ 0 ∷ 0 ∷ []) ∷ (1 ∷ 1 ∷ 0 ∷ 0 ∷ 9 ∷ 0 ∷ 5 ∷ 0 ∷ []) ∷ [])

abbrev pub two_unit_nodes : List Row
two_unit_nodes = ((16 ∷ 0 ∷ 0 ∷ 0 ∷ []) ∷ (1 ∷ 1 ∷ 0 ∷ 0 ∷ []) ∷ (2 ∷ 0 ∷ 0 ∷ 0 ∷ []) ∷ (3 ∷ 2 ∷ 1 ∷ 0 ∷ []) ∷ (1 ∷ 3 ∷ 0 ∷ 0 ∷ []) ∷ (17 ∷ 2 ∷ 4 ∷ 0 ∷ []) ∷ (2 ∷ 1 ∷ 0 ∷ 0 ∷ []) ∷ (3 ∷ 6 ∷ 1 ∷ 0 ∷ []) ∷ [])

abbrev pub two_unit_transitions : List Row
two_unit_transitions = ((0 ∷ 1 ∷ 2 ∷ 255 ∷ 0 ∷ []) ∷ (0 ∷ 2 ∷ 1 ∷ 255 ∷ 0 ∷ []) ∷ (1 ∷ 1 ∷ 2 ∷ 255 ∷ 0 ∷ []) ∷ [])

abbrev pub two_unit_settings : List Row
two_unit_settings = ((1 ∷ 0 ∷ 3 ∷ []) ∷ (2 ∷ 1 ∷ 7 ∷ []) ∷ [])

abbrev pub two_unit_questions : List Row
two_unit_questions = ((5 ∷ []) ∷ [])

-- its rows
abbrev pub two_unit_rows : Sheet
two_unit_rows = two_unit_components ∷ two_unit_elements ∷ [] ∷ two_unit_nodes ∷ [] ∷ [] ∷ two_unit_transitions ∷ two_unit_settings ∷ two_unit_questions ∷ []

-- What the cut for the question leaves of it: component 1 starts at mode 0, and element 1, nodes 6 and 7, transition 2
-- and setting 1 are blank.
abbrev pub two_unit_cut : Sheet
two_unit_cut =
    ((2 ∷ 1 ∷ []) ∷ (2 ∷ 0 ∷ []) ∷ [])
    ∷ ((1 ∷ 0 ∷ 0 ∷ 0 ∷ 3 ∷ 0 ∷ 0 ∷ 0 ∷ []) ∷ (0 ∷ 0 ∷ 0 ∷ 0 ∷ 0 ∷ 0 ∷ 0 ∷ 0 ∷ []) ∷ [])
    ∷ []
    ∷ ((16 ∷ 0 ∷ 0 ∷ 0 ∷ []) ∷ (1 ∷ 1 ∷ 0 ∷ 0 ∷ []) ∷ (2 ∷ 0 ∷ 0 ∷ 0 ∷ []) ∷ (3 ∷ 2 ∷ 1 ∷ 0 ∷ []) ∷ (1 ∷ 3 ∷ 0 ∷ 0 ∷ []) ∷ (17 ∷ 2 ∷ 4 ∷ 0 ∷ []) ∷ (0 ∷ 0 ∷ 0 ∷ 0 ∷ []) ∷ (0 ∷ 0 ∷ 0 ∷ 0 ∷ []) ∷ [])
    ∷ []
    ∷ []
    ∷ ((0 ∷ 1 ∷ 2 ∷ 255 ∷ 0 ∷ []) ∷ (0 ∷ 2 ∷ 1 ∷ 255 ∷ 0 ∷ []) ∷ (0 ∷ 0 ∷ 0 ∷ 0 ∷ 0 ∷ []) ∷ [])
    ∷ ((1 ∷ 0 ∷ 3 ∷ []) ∷ (255 ∷ 0 ∷ 0 ∷ []) ∷ [])
    ∷ two_unit_questions
    ∷ []

-- What is kept for the question: element 0, and the modes 1 and 2 of component 0.
abbrev pub two_unit_kept : Kept
two_unit_kept (KeptElement e) = e == 0
two_unit_kept (KeptEvent v) = false
two_unit_kept (KeptMode c m) = c == 0 && (m == 1 || m == 2)
