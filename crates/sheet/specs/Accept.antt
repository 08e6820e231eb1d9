-- Which bytes are a sheet, and which rows are those of one.
use Rattle.std.specs.Prelude.{ℕ, ◌+◌, ◌*◌, Bool, not, ◌&&◌, List, [], ◌∷◌, ◌++◌, length, drop, is_some, Some, None, Ok, Err, Result, ◌==◌, nat_le, nat_lt, slice_index, slice_index_or}
use Rattle.std.specs.Simd.{first_chunks}
use Rattle.sheet.specs.Entry.{Entry}
use Rattle.sheet.specs.declared.refusal.Reason.{Reason}
use Rattle.sheet.specs.declared.refusal.Reason.TheVariants.{EndsEarly, LeftOver, CountNotAllowed, WrongByItself, WrongByReference, Clash, ForbiddenResting}
use Rattle.sheet.specs.declared.refusal.Refusal.{Refusal}
use Rattle.sheet.specs.Sections.{Row, Sheet, rows, Shape, shapes, shaped, components, elements, events, nodes, flows, connections, transitions, settings, questions}
use Rattle.sheet.specs.Tries.{Try, must, first_fault, each}
use Rattle.sheet.specs.Typed.{component_entry, element_entry, event_entry, node_entry, flow_entry, connection_entry, transition_entry, setting_entry, question_entry}
use Rattle.sheet.specs.Rules.{Checks, component_checks, element_checks, event_checks, node_checks, flow_checks, connection_checks, transition_checks, setting_checks, question_checks}

-- The number of each reason.
abbrev pub number_of : Reason → ℕ
number_of EndsEarly = 1
number_of LeftOver = 2
number_of CountNotAllowed = 3
number_of WrongByItself = 4
number_of WrongByReference = 5
number_of Clash = 6
number_of ForbiddenResting = 7

abbrev pub refusal : Reason → (section row : ℕ) → Refusal
refusal y s r = record { reason = y; section = s; row = r }

-- ---- the layout

-- the count byte at the front
abbrev pub count_in : List ℕ → ℕ
count_in bs = slice_index bs 0

-- the bytes of a section at the front
abbrev pub span : Shape → List ℕ → ℕ
span h bs = 1 + count_in bs * h.width

-- row i of a section at the front fits whole
abbrev pub row_fits : Shape → List ℕ → ℕ → Bool
row_fits h bs i = nat_le (1 + (i + 1) * h.width) (length bs)

-- The tries of section s at the front of the bytes: its count is there, it is allowed, and each row fits whole.
abbrev pub section_tries : ℕ → Shape → List ℕ → List (Try Refusal)
section_tries s h bs =
    must (nat_lt 0 (length bs)) (refusal EndsEarly s 0)
    ∷ must (nat_le h.least (count_in bs) && nat_le (count_in bs) h.most) (refusal CountNotAllowed s 0)
    ∷ each (count_in bs) (λ i. must (row_fits h bs i) (refusal EndsEarly s i) ∷ [])

-- The tries of the sections from number s on, and last that no bytes are left over.
abbrev pub layout_tries : ℕ → List Shape → List ℕ → List (Try Refusal)
layout_tries s [] bs = must (length bs == 0) (refusal LeftOver s 0) ∷ []
layout_tries s (h ∷ hs) bs = section_tries s h bs ++ layout_tries (s + 1) hs (drop (span h bs) bs)

-- the rows of the sections that stand in the bytes
abbrev pub sections_in : List Shape → List ℕ → Sheet
sections_in [] bs = []
sections_in (h ∷ hs) bs = first_chunks h.width (count_in bs) (drop 1 bs) ∷ sections_in hs (drop (span h bs) bs)

abbrev pub rows_in : List ℕ → Sheet
rows_in bs = sections_in shapes bs

-- ---- the rows

-- The tries of a row by what it says: nothing is tried of a blank row; what a row holds is tried by what it names, for a
-- clash, and by what it rests on, in this order.
abbrev pub entry_tries : {X : Type 0} → (section row : ℕ) → (X → Checks) → Entry X → List (Try Refusal)
entry_tries s i checks (Ok None) = []
entry_tries s i checks (Err _) = Some (refusal WrongByItself s i) ∷ []
entry_tries s i checks (Ok (Some x)) =
    must (checks x).names_right (refusal WrongByReference s i)
    ∷ must (checks x).clash_free (refusal Clash s i)
    ∷ must (checks x).rests_right (refusal ForbiddenResting s i)
    ∷ []

-- the tries of a section's rows, each with its index
abbrev pub rows_tries : {X : Type 0} → (section : ℕ) → (Row → Entry X) → (ℕ → X → Checks) → List Row → List (Try Refusal)
rows_tries s entry checks rs = each (length rs) (λ i. entry_tries s i (checks i) (entry (slice_index_or rs i [])))

-- The tries of all rows, in the order of the sections.
unfoldable pub sheet_tries : Sheet → List (Try Refusal)
sheet_tries s =
    rows_tries components component_entry (component_checks s) (rows s components)
    ++ (rows_tries elements element_entry (element_checks s) (rows s elements)
    ++ (rows_tries events event_entry (event_checks s) (rows s events)
    ++ (rows_tries nodes node_entry (node_checks s) (rows s nodes)
    ++ (rows_tries flows flow_entry (flow_checks s) (rows s flows)
    ++ (rows_tries connections connection_entry (connection_checks s) (rows s connections)
    ++ (rows_tries transitions transition_entry (transition_checks s) (rows s transitions)
    ++ (rows_tries settings setting_entry (setting_checks s) (rows s settings)
    ++ rows_tries questions question_entry (question_checks s) (rows s questions))))))))

-- ---- acceptance

-- Rows are accepted where they have the shapes of the sections and every try of them passes.
abbrev pub accepted : Sheet → Bool
accepted s = shaped shapes s && not (is_some (first_fault (sheet_tries s)))

-- All tries of some bytes: the whole layout first, then the rows that stand in them.
abbrev pub tries : List ℕ → List (Try Refusal)
tries bs = layout_tries 0 shapes bs ++ sheet_tries (rows_in bs)

-- a verdict by a try: what is given, or the refusal
abbrev pub judged : {X : Type 0} → X → Try Refusal → Result X Refusal
judged x None = Ok x
judged x (Some f) = Err f

-- The verdict on any bytes: accepted, or the first fault.
abbrev pub verdict : List ℕ → Result (Unit {0}) Refusal
verdict bs = judged tt (first_fault (tries bs))

-- The rows that the bytes are accepted as, or the first fault.
abbrev pub accept : List ℕ → Result Sheet Refusal
accept bs = judged (rows_in bs) (first_fault (tries bs))
