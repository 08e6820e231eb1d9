-- What a layout means, and what cutting bytes into sections answers.
use Rattle.std.specs.Prelude.{◌≡◌, ℕ, List, [], ◌∷◌, Some, None, Ok, Err, Result}
use Rattle.sheet.specs.declared.refusal.Refusal.{Refusal}
use Rattle.sheet.specs.Sections.{Sheet, shapes}
use Rattle.sheet.specs.Tries.{first_fault}
use Rattle.sheet.specs.Accept.{layout_tries, rows_in}
use Rattle.layout.specs.declared.rows.Layout.{Layout}

-- the rows that a layout shows
abbrev pub rows_of : Layout → Sheet
rows_of l = l.components.now ∷ l.elements.now ∷ l.events.now ∷ l.nodes.now ∷ l.flows.now ∷ l.connections.now ∷ l.transitions.now ∷ l.settings.now ∷ l.questions.now ∷ []

-- The bytes pass every try of the layout and the answer shows the rows in them; or it is the first fault of the layout.
abbrev pub LaysOut : List ℕ → Result Layout Refusal → Type 0
LaysOut bs (Ok l) = (first_fault (layout_tries 0 shapes bs) ≡ None) × (rows_of l ≡ rows_in bs)
LaysOut bs (Err f) = first_fault (layout_tries 0 shapes bs) ≡ Some f
