use Rattle.std.proofs.Common.{◌≡◌, ◌++◌, string_bytes}
use Rattle.reader.specs.Means.{rows_held}
use Rattle.report.specs.Text.{count_line, lines}
use Rattle.report.proofs.lines.add_counts.Given as goal

abbrev pub invariant-loop-i : goal.invariant-loop-i
invariant-loop-i l = string_bytes l.text ≡ string_bytes l.initial.text ++ lines l.i (count_line (rows_held l.sheet))
