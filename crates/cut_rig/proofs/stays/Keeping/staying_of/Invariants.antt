use Rattle.std.proofs.Common.{◌≡◌, ℕ, ◌<◌, false, get_or}
use Rattle.closing.specs.Marks.{kept_of}
use Rattle.cutting.specs.CutCells.{row_stays}
use Rattle.cutting.specs.Kept.{chosen_in}
use Rattle.cut_rig.proofs.stays.Keeping.staying_of.Given as goal

abbrev pub invariant-loop-row : goal.invariant-loop-row
invariant-loop-row g l = (i : ℕ) → i < l.row → get_or l.stay-items i false ≡ row_stays (kept_of l.self.marks.now) (chosen_in l.self.set) (g.V.View.rows l.self.view.now) l.section i
