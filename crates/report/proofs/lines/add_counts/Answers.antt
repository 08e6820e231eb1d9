use Rattle.std.proofs.Common.{◌≡◌, ◌++◌, length, string_bytes, codes, decimal, rules}
use Rattle.reader.specs.Means.{rows_held}
use Rattle.sheet.specs.Sections.{rows}
use Rattle.report.specs.Text.{count_line}
use Rattle.report.proofs.Adding.{line_more}
use Rattle.report.proofs.lines.add_counts.Goals as goal

pub loop-i-preserved : goal.loop-i-preserved
loop-i-preserved c =
    let s = rows_held c.args.sheet.now in
    let added = c.in_ok-writeln.ensures.bytes in
    let name = c.name_of_section-name.ensures in
    let count : c.unwrap_or-count.result ≡ length (rows s c.loop-i.i) = search rules in
    line_more (string_bytes c.args.text.now) (string_bytes c.loop-i.text) (string_bytes c.writeln.new.self) _ (count_line s) c.loop-i.i c.loop-i.invariant added
    (λ k. name k ++ (codes ": " ++ (decimal (count k) ++ codes "\n")))
