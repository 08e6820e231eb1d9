use Rattle.std.proofs.Common.{not, sym, ap}
use Rattle.layout.specs.Laid.{rows_of}
use Rattle.sheet.specs.Lookup.{there, is}
use Rattle.sheet.specs.Sections.{rows}
use Rattle.rules.proofs.Below.{none_more, some_below}
use Rattle.rules.proofs.checks.is_clear_of_earlier.Goals as goal

pub returns-then-clashes_with : goal.returns-then-clashes_with
returns-then-clashes_with g c = sym (ap not (some_below (λ j. is (there g.R.FromRow.entry (rows (rows_of c.args.sheet.now) g.R.SectionRow.SECTION) j) (λ y. g.R.Clashing.clash y c.args.x)) c.loop-j.j c.args.i c.loop-j-test.true (sym c.if-clashes_with.ensures)))

pub loop-j-preserved : goal.loop-j-preserved
loop-j-preserved g c = none_more (λ j. is (there g.R.FromRow.entry (rows (rows_of c.args.sheet.now) g.R.SectionRow.SECTION) j) (λ y. g.R.Clashing.clash y c.args.x)) c.loop-j.j c.loop-j.invariant (sym c.if-clashes_with.ensures)
