use Rattle.std.proofs.Common.{ap}
use Rattle.std.proofs.lemmas.Result.{err_from_is_err_and}
use Rattle.sheet.specs.Accept.{judged, rows_in}
use Rattle.sheet.proofs.Acceptance.{writes_back}
use Rattle.sheet.proofs.Meaning.{keeps_the_rules}
use Rattle.sheet.proofs.Rested.{resting_is_reaching}
use Rattle.reader.specs.Means.{rows_held}
use Rattle.reader.proofs.Verdicts.{refused_layout, rows_refused, no_fault, rows_accepted, rows_taken}
use Rattle.reader.proofs.read.read.Goals as goal

pub returns-in_err-layout : goal.returns-in_err-layout
returns-in_err-layout c =
    let p = err_from_is_err_and c.from_residual.result c.from_residual.ensures.1 in
    rw (p.1, p.2) (record { answer = ap (judged (rows_in c.args.bytes.now)) (refused_layout c.args.bytes.now _ c.in_err-layout.ensures.answer); writes_the_same_bytes = tt; keeps_every_rule = tt })

pub returns-in_err-try_rows : goal.returns-in_err-try_rows
returns-in_err-try_rows c =
    let p = err_from_is_err_and c.from_residual-in_err-try_rows.result c.from_residual-in_err-try_rows.ensures.1 in
    rw (p.1, p.2) (record { answer = ap (judged (rows_in c.args.bytes.now)) (rows_refused c.args.bytes.now c.in_ok-layout.layout c.in_ok-layout.ensures.answer _ c.in_err-try_rows.ensures); writes_the_same_bytes = tt; keeps_every_rule = tt })

pub copied-requires : goal.copied-requires
copied-requires c = rows_accepted c.args.bytes.now c.in_ok-layout.layout c.in_ok-layout.ensures.answer c.in_ok-try_rows.ensures c.in_ok-layout.ensures.typed

pub returns-in_err-sheet : goal.returns-in_err-sheet
returns-in_err-sheet c =
    let p = err_from_is_err_and c.from_residual-in_err-sheet.result c.from_residual-in_err-sheet.ensures.1 in
    rw (p.1, p.2) (record { answer = ap (judged tt) (no_fault c.args.bytes.now c.in_ok-layout.layout c.in_ok-layout.ensures.answer c.in_ok-try_rows.ensures); writes_the_same_bytes = tt; keeps_every_rule = tt })

pub returns : goal.returns
returns c =
    let bs = c.args.bytes.now in
    let s = rows_held c.in_ok-sheet.sheet in
    let taken = rows_taken bs c.in_ok-layout.layout c.in_ok-layout.ensures.answer c.in_ok-try_rows.ensures s c.in_ok-sheet.ensures in
    let a = c.in_ok-sheet.sheet.accepted in
    record {
      answer = taken;
      writes_the_same_bytes = writes_back bs s c.in_ok-layout.ensures.typed taken;
      keeps_every_rule = record { rules = keeps_the_rules s a; resting = resting_is_reaching s a };
    }
