use Rattle.std.proofs.Common.{[], get_or}
use Rattle.sheet.specs.Sections.{rows}
use Rattle.view.proofs.Bytes.{Taken}
use Rattle.view.proofs.typed.bytes_of.Given as goal

abbrev pub invariant-loop-place : goal.invariant-loop-place
invariant-loop-place g l = Taken (get_or (rows (g.V.View.rows l.view) g.R.SectionRow.SECTION) l.row []) l.byte-items g.row.N l.place
