use Rattle.std.proofs.Common.{◌≡◌, [], ◌++◌, Some, string_bytes, append-nil, sym, ap, ◌∙◌}
use Rattle.reader.specs.Means.{rows_held}
use Rattle.report.specs.Text.{component_line, component_text}
use Rattle.report.proofs.Adding.{line_more}
use Rattle.report.proofs.lines.add_components.Goals as goal
use Rattle.report.proofs.lines.add_components.Goals.{in-Some+in_ok-writeln, in_default}

pub loop-i-preserved : goal.loop-i-preserved
loop-i-preserved c =
    let s = rows_held c.args.sheet.now in
    let i = c.loop-i.i-counter in
    let start = string_bytes c.args.text.now in
    let was = string_bytes c.loop-i.text in
    let now = string_bytes c.match-row.text in
    elim c.match-row.branch [
      | in-Some+in_ok-writeln w ↦
          let line = component_text i (Some w.in-Some.field-0) in
          let added : now ≡ was ++ line = ap string_bytes w.text-is ∙ w.in_ok-writeln.ensures.bytes in
          line_more start was now line (component_line s) i c.loop-i.invariant added (ap (component_text i) w.in-Some.ensures)
      | in_default w ↦ line_more start was now [] (component_line s) i c.loop-i.invariant (ap string_bytes w.text-is ∙ sym (append-nil (string_bytes c.loop-i.text))) (ap (component_text i) w.in_default.ensures)
    ]
