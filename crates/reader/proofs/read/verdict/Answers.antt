use Rattle.std.proofs.Common.{◌≡◌, Err, sym, ap, ◌∙◌}
use Rattle.std.proofs.lemmas.Result.{err_from_is_err_and}
use Rattle.sheet.specs.Accept.{verdict, judged}
use Rattle.sheet.specs.Laws.{AcceptanceIsKeepingTheRules}
use Rattle.sheet.proofs.Acceptance.{names_first_as}
use Rattle.sheet.proofs.Meaning.{keeps_the_rules, rules_kept}
use Rattle.reader.proofs.Verdicts.{refused_layout, judged_by_rows}
use Rattle.reader.proofs.read.verdict.Goals as goal

meaning : AcceptanceIsKeepingTheRules
meaning s = (keeps_the_rules s, rules_kept s)

pub returns-in_err-sections : goal.returns-in_err-sections
returns-in_err-sections c =
    let p = err_from_is_err_and c.from_residual.result c.from_residual.ensures.1 in
    let value : c.from_residual.result ≡ verdict c.args.bytes.now = p.1 ∙ ap Err p.2 ∙ sym (ap (judged tt) (refused_layout c.args.bytes.now _ c.in_err-sections.ensures.answer)) in
    record { value = value; names_the_first_fault = names_first_as c.args.bytes.now tt c.from_residual.result value; acceptance_is_keeping_the_rules = meaning }

pub returns : goal.returns
returns c =
    let value : c.try_rows.result ≡ verdict c.args.bytes.now = c.try_rows.ensures ∙ ap (judged tt) (judged_by_rows c.args.bytes.now c.in_ok-sections.sections c.in_ok-sections.ensures.answer) in
    record { value = value; names_the_first_fault = names_first_as c.args.bytes.now tt c.try_rows.result value; acceptance_is_keeping_the_rules = meaning }
