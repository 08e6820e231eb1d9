use Rattle.std.proofs.Common.{take}
use Rattle.sheet.specs.Sections.{bytes_of}
use Rattle.writer.specs.Filled.{Filled}
use Rattle.writer.proofs.write.write.Given as goal

abbrev pub invariant-loop-section : goal.invariant-loop-section
invariant-loop-section g l = Filled l.initial.filling (bytes_of (take l.section (g.R.Rig.rows l.rig))) l.filling
