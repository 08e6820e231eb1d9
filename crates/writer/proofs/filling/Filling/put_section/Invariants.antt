use Rattle.std.proofs.Common.{take}
use Rattle.sheet.specs.Sections.{rows, strung}
use Rattle.writer.specs.Filled.{Filled}
use Rattle.writer.proofs.filling.Filling.put_section.Given as goal

abbrev pub invariant-loop-row : goal.invariant-loop-row
invariant-loop-row g l = Filled l.initial.self (strung (take l.row (rows (g.V.View.rows l.view) l.section))) l.self
