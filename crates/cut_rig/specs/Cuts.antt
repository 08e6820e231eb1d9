-- What a cut means, by what the rig below it means, and what its maker promises.
use Rattle.std.specs.Prelude.{◌≡◌, ℕ, Some, None, Ok, Err, Result}
use Rattle.cutting.specs.declared.kinds.NoCut.{NoCut}
use Rattle.cutting.specs.CutSheet.{cut_sheet, shown, cut_fault, IsCutFor}
use Rattle.rig.specs.Meaning.{Meaning, with_state}
use Rattle.sheet.specs.Sections.{Sheet}
use Rattle.cut_rig.specs.declared.cut.Cut.{Cut}
use Rattle.cut_rig.specs.Tables.{kept_in, chosen_by, TablesFit}

-- its rows: the cut sheet of the rows below
abbrev pub rows_above : {R : Type 0} → (R → Sheet) → Cut R → Sheet
rows_above rows x = cut_sheet (kept_in x.tables) (chosen_by x.tables) (rows x.below)

-- its state: the state below with modes that are not kept shown as 0
abbrev pub means_above : {R : Type 0} → (R → Meaning) → Cut R → Meaning
means_above means x = with_state (means x.below) (shown (kept_in x.tables) (means x.below).state)

-- the rig below fits, and the tables fit its rows
pub record FitsAbove {R : Type 0} (rows : R → Sheet) (fits : R → Type 0) (x : Cut R) : Type 0 where
  pub below_fits : fits x.below
  pub tables_fit : TablesFit (rows x.below) x.tables

-- A cut of a rig for a set of questions: above that rig as it was, with the cut for the set as its rows.
pub record CutOf {R : Type 0} (rows : R → Sheet) (fits : R → Type 0) (below : R) (set : ℕ) (x : Cut R) : Type 0 where
  pub is_there : cut_fault (rows below) set ≡ None
  pub cut_fits : FitsAbove rows fits x
  pub above : x.below ≡ below
  pub is_cut : IsCutFor (rows below) set (rows_above rows x)

-- The cut, or the rig as it was and why there is no cut.
abbrev pub MadeAbove : {R : Type 0} → (R → Sheet) → (R → Type 0) → R → ℕ → Result (Cut R) (R × NoCut) → Type 0
MadeAbove rows fits below set (Ok x) = CutOf rows fits below set x
MadeAbove rows fits below set (Err e) = (e.0 ≡ below) × (cut_fault (rows below) set ≡ Some e.1)
