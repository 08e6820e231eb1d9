-- The rows tried section by section, as the code walks them. The public contract does not rest on it.
use Rattle.std.specs.Prelude.{ℕ, Bool, List, [], ◌∷◌, Some, None, Ok, Err, Result}
use Rattle.sheet.specs.Entry.{Entry}
use Rattle.sheet.specs.declared.refusal.Reason.{Reason}
use Rattle.sheet.specs.declared.refusal.Reason.TheVariants.{WrongByItself, WrongByReference, Clash, ForbiddenResting}
use Rattle.sheet.specs.declared.refusal.Refusal.{Refusal}
use Rattle.sheet.specs.Sections.{Row, Sheet, rows, components, elements, events, nodes, flows, connections, transitions, settings, questions}
use Rattle.sheet.specs.Tries.{Try, must, first_fault}
use Rattle.sheet.specs.Typed.{component_entry, element_entry, event_entry, node_entry, flow_entry, connection_entry, transition_entry, setting_entry, question_entry}
use Rattle.sheet.specs.Rules.{Checks, component_checks, element_checks, event_checks, node_checks, flow_checks, connection_checks, transition_checks, setting_checks, question_checks}
use Rattle.sheet.specs.Accept.{rows_tries, judged}

-- no reason to refuse, or the reason
abbrev pub by_reason : Try Reason → Result (Unit {0}) Reason
by_reason None = Ok tt
by_reason (Some y) = Err y

-- the verdict by one rule: kept, or the reason to refuse
abbrev pub by_rule : Bool → Reason → Result (Unit {0}) Reason
by_rule kept y = by_reason (must kept y)

-- the first rule that is broken, in the order of the reasons
abbrev pub broken : Checks → Try Reason
broken c = first_fault (must c.names_right WrongByReference ∷ must c.clash_free Clash ∷ must c.rests_right ForbiddenResting ∷ [])

-- the reason to refuse a row by what its bytes say, if there is one
abbrev pub row_reason : {X : Type 0} → (X → Checks) → Entry X → Try Reason
row_reason checks (Ok None) = None
row_reason checks (Ok (Some x)) = broken (checks x)
row_reason checks (Err f) = Some WrongByItself

abbrev pub Verdict : Type 0
Verdict = Result (Unit {0}) Refusal

-- the second verdict, unless the first refuses
abbrev pub and_then : Verdict → Verdict → Verdict
and_then (Ok u) v = v
and_then (Err f) v = Err f

-- the verdict on the rows of a section
unfoldable pub section_verdict : {X : Type 0} → ℕ → (Row → Entry X) → (ℕ → X → Checks) → List Row → Verdict
section_verdict s entry checks rs = judged tt (first_fault (rows_tries s entry checks rs))

-- the verdict on all rows
abbrev pub walked : Sheet → Verdict
walked s =
    and_then (section_verdict components component_entry (component_checks s) (rows s components))
    (and_then (section_verdict elements element_entry (element_checks s) (rows s elements))
    (and_then (section_verdict events event_entry (event_checks s) (rows s events))
    (and_then (section_verdict nodes node_entry (node_checks s) (rows s nodes))
    (and_then (section_verdict flows flow_entry (flow_checks s) (rows s flows))
    (and_then (section_verdict connections connection_entry (connection_checks s) (rows s connections))
    (and_then (section_verdict transitions transition_entry (transition_checks s) (rows s transitions))
    (and_then (section_verdict settings setting_entry (setting_checks s) (rows s settings))
    (section_verdict questions question_entry (question_checks s) (rows s questions)))))))))
