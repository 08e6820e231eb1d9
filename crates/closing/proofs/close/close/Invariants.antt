use Rattle.cutting.specs.Kept.{Chosen}
use Rattle.marking.specs.Passes.{unmarked, Needed}
use Rattle.closing.proofs.close.close.Given as goal

abbrev pub invariant-loop : goal.invariant-loop
invariant-loop g l = (chosen : Chosen) → Needed (g.V.View.rows l.view) chosen l.initial.marks.table l.marks.table

abbrev pub decreases-loop : goal.decreases-loop
decreases-loop g l = unmarked l.marks.table
