use Rattle.std.proofs.Common.{◌≡◌, sym, ◌∙◌, rules, tests}
use Rattle.std.proofs.lemmas.Iterator.{YieldsList-from_slice}
use Rattle.std.proofs.lemmas.Iterator.Search.{all_from_yields_List}
use Rattle.std.specs.Char.{is_ascii_digit}
use Rattle.std.specs.Str.{all_ascii_digits}
use Rattle.session.proofs.Numbers.{digits_all, digits_are_text, number_none, number_parsed}
use Rattle.session.proofs.line.number_in.Goals as goal
use Rattle.session.proofs.line.number_in.Goals.{After-all}

digits_tested : (c : After-all) → c.all.result ≡ all_ascii_digits c.args.word.now
digits_tested c =
    let word = c.args.word.now in
    all_from_yields_List is_ascii_digit _ _ c.all.result c.all.ensures.ran (YieldsList-from_slice word cc) (λ x b q k. search (rules, tests))
    ∙ digits_all word

pub returns-then-not-all : goal.returns-then-not-all
returns-then-not-all c =
    sym (number_none c.args.word.now (sym (digits_tested (goal.at.returns-then-not-all c).After-all) ∙ c.if-not-all.true))

pub returns-in_err-ok : goal.returns-in_err-ok
returns-in_err-ok c =
    let all = sym (digits_tested (goal.at.returns-in_err-ok c).After-all) ∙ c.if-not-all.false in
    let text = digits_are_text c.args.word.now all in
    search rules

pub returns : goal.returns
returns c =
    let all = sym (digits_tested (goal.at.returns c).After-all) ∙ c.if-not-all.false in
    let same : c.in_ok-ok.field-0.now ≡ c.args.word.now = search rules in
    c.ok-2.ensures.value ∙ number_parsed c.args.word.now c.parse.result all (rw same at c.parse.ensures.value.0)
