use Rattle.std.proofs.Common.{string_bytes, ap, ◌∙◌}
use Rattle.reader.specs.Means.{rows_held}
use Rattle.report.specs.Text.{question_line, question_text}
use Rattle.report.proofs.Adding.{line_more}
use Rattle.report.proofs.lines.add_questions.Goals as goal
use Rattle.report.proofs.lines.add_questions.Goals.{in-Some+in_ok-writeln-in-Some, in-None+in_ok-writeln-in-None}

pub loop-i-preserved : goal.loop-i-preserved
loop-i-preserved c =
    let s = rows_held c.args.sheet.now in
    let i = c.loop-i.i-counter in
    let start = string_bytes c.args.text.now in
    let was = string_bytes c.loop-i.text in
    let now = string_bytes c.match-row.text in
    elim c.match-row.branch [
      | in-Some+in_ok-writeln-in-Some w ↦ line_more start was now _ (question_line s) i c.loop-i.invariant (ap string_bytes w.text-is ∙ w.in_ok-writeln-in-Some.ensures.bytes) (ap (question_text i) w.in-Some.ensures)
      | in-None+in_ok-writeln-in-None w ↦ line_more start was now _ (question_line s) i c.loop-i.invariant (ap string_bytes w.text-is ∙ w.in_ok-writeln-in-None.ensures.bytes) (ap (question_text i) w.in-None.ensures)
    ]
