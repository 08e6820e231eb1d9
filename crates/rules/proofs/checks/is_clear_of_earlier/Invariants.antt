use Rattle.std.proofs.Common.{◌≡◌, false}
use Rattle.layout.specs.Laid.{rows_of}
use Rattle.sheet.specs.Lookup.{there, is}
use Rattle.sheet.specs.Rules.{any_below}
use Rattle.sheet.specs.Sections.{rows}
use Rattle.rules.proofs.checks.is_clear_of_earlier.Given as goal

abbrev pub invariant-loop-j : goal.invariant-loop-j
invariant-loop-j g l = any_below l.j (λ j. is (there g.R.FromRow.entry (rows (rows_of l.sheet) g.R.SectionRow.SECTION) j) (λ y. g.R.Clashing.clash y l.x)) ≡ false
