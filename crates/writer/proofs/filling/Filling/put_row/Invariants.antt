use Rattle.std.proofs.Common.{[], get_or, take}
use Rattle.sheet.specs.Sections.{rows}
use Rattle.writer.specs.Filled.{Filled}
use Rattle.writer.proofs.filling.Filling.put_row.Given as goal

abbrev pub invariant-loop-place : goal.invariant-loop-place
invariant-loop-place g l =
    (goal.iterator-loop-place g).can_next l.place-iterator
    × (goal.iterator-loop-place g).is_finite l.place-iterator
    × Filled l.initial.self (take l.place-iterator.start (get_or (rows (g.V.View.rows l.view) l.section) l.row [])) l.self
