-- The sheet and the state that a cut shows, and when there is none.
use Rattle.std.specs.Prelude.{◌≡◌, ℕ, Bool, cond, not, ◌&&◌, ◌||◌, List, [], ◌∷◌, replicate, ℤ, pos, is_some, ◌==◌}
use Rattle.std.specs.List.{list_any}
use Rattle.sheet.specs.Entry.{Entry}
use Rattle.sheet.specs.declared.rows.Connection.{Connection}
use Rattle.sheet.specs.declared.rows.Setting.{Setting}
use Rattle.sheet.specs.declared.rows.Target.TheVariants.{Node as ThatNode}
use Rattle.sheet.specs.Lookup.{held, is, transition_at, question_at}
use Rattle.sheet.specs.Resting.{rests}
use Rattle.sheet.specs.Sections.{Row, Sheet, rows, width_of, components, elements, events, nodes, flows, connections, transitions, settings, questions}
use Rattle.sheet.specs.Tries.{Try, must, first_fault, each}
use Rattle.sheet.specs.Typed.{at, element_entry, event_entry, node_entry, flow_entry, connection_entry, transition_entry, setting_entry, question_entry}
use Rattle.running.specs.States.{State}
use Rattle.cutting.specs.declared.kinds.NoCut.{NoCut}
use Rattle.cutting.specs.declared.kinds.NoCut.TheVariants.{EmptySet, NoQuestion}
use Rattle.cutting.specs.declared.kinds.Thing.TheVariants.{Element as KeptElement, Event as KeptEvent, Mode as KeptMode}
use Rattle.cutting.specs.Kept.{Kept, Chosen, chosen_in, keeps_from, Smallest}
use Rattle.cutting.specs.Numbered.{numbered}

-- The blank row of a section: FF 00 00 among the settings, FF among the questions, else all zeros.
abbrev pub blank_row : ℕ → Row
blank_row k = cond (k == settings) (255 ∷ 0 ∷ 0 ∷ []) (cond (k == questions) (255 ∷ []) (replicate (width_of k) 0))

-- a row of section k stays if what it holds passes the test, and else it becomes blank
abbrev pub stays_if : {X : Type 0} → ℕ → (Row → Entry X) → (X → Bool) → Row → Row
stays_if k entry test r = cond (is (held (entry r)) test) r (blank_row k)

-- a mode as a cut shows it: one that is not kept is shown as 0
abbrev pub shown_mode : Kept → (component mode : ℕ) → ℕ
shown_mode k c m = cond (k (KeptMode c m)) m 0

-- ---- the rows, section by section

abbrev pub cut_component : Kept → ℕ → Row → Row
cut_component k c r = at r 0 ∷ shown_mode k c (at r 1) ∷ []

abbrev pub cut_element : Kept → ℕ → Row → Row
cut_element k e = stays_if elements element_entry (λ x. k (KeptElement e))

abbrev pub cut_event : Kept → ℕ → Row → Row
cut_event k v = stays_if events event_entry (λ x. k (KeptEvent v))

abbrev pub cut_flow : Kept → ℕ → Row → Row
cut_flow k i = stays_if flows flow_entry (λ x. k (KeptElement x.port))

-- both events are kept
abbrev pub keeps_events : Kept → Connection → Bool
keeps_events k x = k (KeptEvent x.out_event) && k (KeptEvent x.in_event)

abbrev pub cut_connection : Kept → ℕ → Row → Row
cut_connection k i = stays_if connections connection_entry (keeps_events k)

-- the row of a transition with its to mode as it is shown
abbrev pub with_shown_to : Kept → Row → Row
with_shown_to k r = at r 0 ∷ at r 1 ∷ shown_mode k (at r 0) (at r 2) ∷ at r 3 ∷ at r 4 ∷ []

abbrev pub cut_transition : Kept → ℕ → Row → Row
cut_transition k i r = cond (is (held (transition_entry r)) (keeps_from k)) (with_shown_to k r) (blank_row transitions)

-- the transition stays, and the element is kept
abbrev pub keeps_setting : Kept → Sheet → Setting → Bool
keeps_setting k s x = is (transition_at s x.transition) (keeps_from k) && k (KeptElement x.element)

abbrev pub cut_setting : Kept → Sheet → ℕ → Row → Row
cut_setting k s i = stays_if settings setting_entry (keeps_setting k s)

abbrev pub cut_question : Chosen → ℕ → Row → Row
cut_question chosen q = stays_if questions question_entry (λ x. chosen q)

-- a row that holds something rests on node n, by the node that it names
abbrev pub rests_by : {X : Type 0} → Sheet → ℕ → (Row → Entry X) → (X → ℕ) → Row → Bool
rests_by s n entry node r = is (held (entry r)) (λ x. rests s (ThatNode n) (node x))

-- a remaining flow, guard, setting or question rests on node n
abbrev pub is_used : Kept → Chosen → Sheet → ℕ → Bool
is_used k chosen s n =
    list_any (rests_by s n flow_entry (λ x. x.node)) (numbered (cut_flow k) (rows s flows))
    || (list_any (rests_by s n transition_entry (λ x. x.guard)) (numbered (cut_transition k) (rows s transitions))
    || (list_any (rests_by s n setting_entry (λ x. x.node)) (numbered (cut_setting k s) (rows s settings))
    || list_any (rests_by s n question_entry (λ x. x.node)) (numbered (cut_question chosen) (rows s questions))))

abbrev pub cut_node : Kept → Chosen → Sheet → ℕ → Row → Row
cut_node k chosen s n = stays_if nodes node_entry (λ x. is_used k chosen s n)

-- The sheet that is left: the same numbers; modes that are not kept are shown as 0, and rows that are not wanted are
-- blank.
abbrev pub cut_sheet : Kept → Chosen → Sheet → Sheet
cut_sheet k chosen s =
    numbered (cut_component k) (rows s components)
    ∷ numbered (cut_element k) (rows s elements)
    ∷ numbered (cut_event k) (rows s events)
    ∷ numbered (cut_node k chosen s) (rows s nodes)
    ∷ numbered (cut_flow k) (rows s flows)
    ∷ numbered (cut_connection k) (rows s connections)
    ∷ numbered (cut_transition k) (rows s transitions)
    ∷ numbered (cut_setting k s) (rows s settings)
    ∷ numbered (cut_question chosen) (rows s questions)
    ∷ []

-- ---- the state

-- a held value as a cut shows it: an element that is not kept holds nothing
abbrev pub shown_value : Kept → ℕ → ℤ → ℤ
shown_value k e v = cond (k (KeptElement e)) v (pos 0)

-- The state that a cut shows of a state below: modes that are not kept as 0, and the values of kept elements.
abbrev pub shown : Kept → State → State
shown k w = record { modes = numbered (shown_mode k) w.modes; held = numbered (shown_value k) w.held }

-- ---- refusals

-- the number of the refusal of a cut
abbrev pub no_cut_number : NoCut → ℕ
no_cut_number f = 14

-- the most questions, and what is told of an empty set
abbrev pub question_places : ℕ
question_places = 16

-- the question that a refusal tells
abbrev pub question_told : NoCut → ℕ
question_told EmptySet = question_places
question_told (NoQuestion q) = q

-- A set is not empty, and each chosen question is there, the lowest first.
abbrev pub cut_tries : Sheet → ℕ → List (Try NoCut)
cut_tries s set = must (not (set == 0)) EmptySet ∷ each question_places (λ q. must (not (chosen_in set q) || is_some (question_at s q)) (NoQuestion q) ∷ [])

-- why there is no cut of the sheet for a set of questions, if there is none
abbrev pub cut_fault : Sheet → ℕ → Try NoCut
cut_fault s set = first_fault (cut_tries s set)

-- ---- the cut for a set of questions

-- t is the cut of s for a set of questions: what is left of s with the kept things for the set.
pub record IsCutFor (s : Sheet) (set : ℕ) (t : Sheet) : Type 0 where
  pub kept : Kept
  pub smallest : Smallest s (chosen_in set) kept
  pub leaves : t ≡ cut_sheet kept (chosen_in set) s
