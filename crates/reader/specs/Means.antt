-- The rows that an accepted sheet holds.
use Rattle.std.specs.Prelude.{[], ◌∷◌, vec_items}
use Rattle.sheet.specs.Sections.{Sheet}
use Rattle.reader.specs.declared.accepted.AcceptedSheet.{AcceptedSheet}

abbrev pub rows_held : AcceptedSheet → Sheet
rows_held s = vec_items s.components ∷ vec_items s.elements ∷ vec_items s.events ∷ vec_items s.nodes ∷ vec_items s.flows ∷ vec_items s.connections ∷ vec_items s.transitions ∷ vec_items s.settings ∷ vec_items s.questions ∷ []
