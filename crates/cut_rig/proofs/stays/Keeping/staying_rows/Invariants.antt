use Rattle.std.proofs.Common.{◌≡◌, ℕ, ◌<◌, false, [], length, get_or}
use Rattle.closing.specs.Marks.{kept_of}
use Rattle.cutting.specs.CutCells.{row_stays}
use Rattle.cutting.specs.Kept.{chosen_in}
use Rattle.cut_rig.proofs.stays.Keeping.staying_rows.Given as goal

abbrev pub invariant-loop-section : goal.invariant-loop-section
invariant-loop-section g l =
    record {
      long : length l.rows-items ≡ 9;
      made : (section i : ℕ) → section < l.section → i < 128 → get_or (get_or l.rows-items section []) i false ≡ row_stays (kept_of l.self.marks.now) (chosen_in l.self.set) (g.V.View.rows l.self.view.now) section i;
    }
