use Rattle.std.proofs.Common.{◌≡◌, List, ◌++◌, Some, None, sym, refl, ap, ◌∙◌}
use Rattle.layout.specs.Laid.{rows_of}
use Rattle.sheet.specs.declared.refusal.Refusal.{Refusal}
use Rattle.sheet.specs.Sections.{Sheet, rows, components, elements, events, nodes, flows, connections, transitions, settings, questions}
use Rattle.sheet.specs.Tries.{Try, or_else, first_fault}
use Rattle.sheet.specs.Typed.{component_entry, element_entry, event_entry, node_entry, flow_entry, connection_entry, transition_entry, setting_entry, question_entry}
use Rattle.sheet.specs.Rules.{component_checks, element_checks, event_checks, node_checks, flow_checks, connection_checks, transition_checks, setting_checks, question_checks}
use Rattle.sheet.specs.Accept.{rows_tries, sheet_tries, judged}
use Rattle.sheet.proofs.Firsts.{first_append}
use Rattle.rules.specs.Walk.{Verdict, and_then, section_verdict, walked}
use Rattle.rules.proofs.walk.try_rows.Goals as goal

joined : (t u : Try Refusal) → judged tt (or_else t u) ≡ and_then (judged tt t) (judged tt u)
joined None u = refl
joined (Some f) u = refl

-- tries one after the other are judged one after the other
one_more : (ts us : List (Try Refusal)) (v : Verdict) → judged tt (first_fault us) ≡ v → judged tt (first_fault (ts ++ us)) ≡ and_then (judged tt (first_fault ts)) v
one_more ts us v e = ap (judged tt) (first_append ts us) ∙ joined (first_fault ts) (first_fault us) ∙ ap (and_then (judged tt (first_fault ts))) e

walked_is : (s : Sheet) → judged tt (first_fault (sheet_tries s)) ≡ walked s
unfolding section_verdict sheet_tries
walked_is s =
    one_more (rows_tries components component_entry (component_checks s) (rows s components)) _ _
    (one_more (rows_tries elements element_entry (element_checks s) (rows s elements)) _ _
    (one_more (rows_tries events event_entry (event_checks s) (rows s events)) _ _
    (one_more (rows_tries nodes node_entry (node_checks s) (rows s nodes)) _ _
    (one_more (rows_tries flows flow_entry (flow_checks s) (rows s flows)) _ _
    (one_more (rows_tries connections connection_entry (connection_checks s) (rows s connections)) _ _
    (one_more (rows_tries transitions transition_entry (transition_checks s) (rows s transitions)) _ _
    (one_more (rows_tries settings setting_entry (setting_checks s) (rows s settings)) _ (judged tt (first_fault (rows_tries questions question_entry (question_checks s) (rows s questions)))) refl)))))))

pub returns : goal.returns
returns c = c.try_sections.ensures ∙ sym (walked_is (rows_of c.args.sheet.now))
