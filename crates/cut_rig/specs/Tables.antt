-- What the tables of a cut mean.
use Rattle.std.specs.Prelude.{◌≡◌, ℕ, ◌<◌, Bool, false, [], cond, ◌&&◌, nat_lt, slice_index_or}
use Rattle.closing.specs.Marks.{kept_of, KeepsFor}
use Rattle.cutting.specs.CutCells.{row_stays}
use Rattle.cutting.specs.Kept.{Kept, Chosen, chosen_in}
use Rattle.sheet.specs.Sections.{Sheet}
use Rattle.cut_rig.specs.declared.tables.Tables.{Tables}

abbrev pub kept_in : Tables → Kept
kept_in t = kept_of t.marks

abbrev pub chosen_by : Tables → Chosen
chosen_by t = chosen_in t.set

-- the table of rows says that row i of a section stays; a row that has no place does not
abbrev pub stays_in : Tables → (section i : ℕ) → Bool
stays_in t section i = cond (nat_lt section 9 && nat_lt i 128) (slice_index_or (slice_index_or t.rows section []) i false) false

-- The marks are those of the kept things for the set, and the table of rows says which rows stay.
pub record TablesFit (s : Sheet) (t : Tables) : Type 0 where
  pub keeps : KeepsFor s t.set t.marks
  pub rows : (section i : ℕ) → section < 9 → i < 128 → slice_index_or (slice_index_or t.rows section []) i false ≡ row_stays (kept_in t) (chosen_by t) s section i
