use Rattle.std.proofs.Common.{◌≡◌, [], get_or, None}
use Rattle.layout.specs.Laid.{rows_of}
use Rattle.sheet.specs.Tries.{each, first_fault}
use Rattle.sheet.specs.Accept.{entry_tries}
use Rattle.sheet.specs.Sections.{rows}
use Rattle.rules.proofs.walk.try_section.Given as goal

abbrev pub invariant-loop-i : goal.invariant-loop-i
invariant-loop-i g l = first_fault (each l.i (λ i. entry_tries g.R.SectionRow.SECTION i (g.R.Tried.checks (rows_of l.sheet) i) (g.R.FromRow.entry (get_or (rows (rows_of l.sheet) g.R.SectionRow.SECTION) i [])))) ≡ None
