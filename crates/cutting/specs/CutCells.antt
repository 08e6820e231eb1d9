-- The bytes of a cut sheet, one by one, from those of the whole sheet.
use Rattle.std.specs.Prelude.{ℕ, Bool, false, cond, ◌&&◌, [], ◌==◌, slice_index, slice_index_or}
use Rattle.sheet.specs.Lookup.{is, element_at, event_at, node_at, flow_at, connection_at, transition_at, setting_at, question_at}
use Rattle.sheet.specs.Sections.{Sheet, rows, components, elements, events, nodes, flows, connections, transitions, settings, questions}
use Rattle.sheet.specs.Typed.{at}
use Rattle.cutting.specs.declared.kinds.Thing.TheVariants.{Element as KeptElement, Event as KeptEvent}
use Rattle.cutting.specs.CutSheet.{blank_row, shown_mode, keeps_events, keeps_setting, is_used}
use Rattle.cutting.specs.Kept.{Kept, Chosen, keeps_from}

-- row i of a section other than the components stays
abbrev pub row_stays : Kept → Chosen → Sheet → (section i : ℕ) → Bool
row_stays k chosen s section i =
    cond (section == elements) (is (element_at s i) (λ x. k (KeptElement i)))
    (cond (section == events) (is (event_at s i) (λ x. k (KeptEvent i)))
    (cond (section == nodes) (is (node_at s i) (λ x. is_used k chosen s i))
    (cond (section == flows) (is (flow_at s i) (λ x. k (KeptElement x.port)))
    (cond (section == connections) (is (connection_at s i) (keeps_events k))
    (cond (section == transitions) (is (transition_at s i) (keeps_from k))
    (cond (section == settings) (is (setting_at s i) (keeps_setting k s))
    (cond (section == questions) (is (question_at s i) (λ x. chosen i)) false)))))))

-- the byte of a blank row
abbrev pub blank_byte : (section place : ℕ) → ℕ
blank_byte section p = slice_index (blank_row section) p

-- byte b of row i of the components
abbrev pub component_byte : Kept → (i place b : ℕ) → ℕ
component_byte k i p b = cond (p == 1) (shown_mode k i b) b

-- byte b of a row that stays; a to mode is shown as a mode of the transition's component
abbrev pub staying_byte : Kept → Sheet → (section i place b : ℕ) → ℕ
staying_byte k s section i p b = cond (section == transitions && p == 2) (shown_mode k (at (slice_index_or (rows s section) i []) 0) b) b

-- the byte of the cut sheet at a section, row and place where the whole sheet has byte b
abbrev pub cut_byte : Kept → Chosen → Sheet → (section i place b : ℕ) → ℕ
cut_byte k chosen s section i p b =
    cond (section == components) (component_byte k i p b)
    (cond (row_stays k chosen s section i) (staying_byte k s section i p b) (blank_byte section p))
