use Rattle.std.proofs.Common.{◌≡◌, length, take}
use Rattle.layout.specs.Laid.{rows_of}
use Rattle.sheet.specs.Resting.{marks}
use Rattle.sheet.specs.Sections.{rows, nodes}
use Rattle.rules.proofs.resting.rests_on.Given as goal

abbrev pub invariant-loop-i : goal.invariant-loop-i
invariant-loop-i l = (length l.table ≡ 256) × (take l.i l.table ≡ marks (rows (rows_of l.sheet) nodes) l.target l.i)
