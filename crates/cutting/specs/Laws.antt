-- Laws of cuts, for contracts to cite.
use Rattle.std.specs.Prelude.{◌≡◌, ℕ, true, List}
use Rattle.sheet.specs.Accept.{accepted}
use Rattle.sheet.specs.Sections.{Sheet}
use Rattle.running.specs.States.{start_state}
use Rattle.cutting.specs.declared.kinds.RunCall.{RunCall}
use Rattle.cutting.specs.Agreement.{Pile, IsKeptQuestion, Agree, TrueSomewhere}
use Rattle.cutting.specs.CutSheet.{cut_sheet, IsCutFor}
use Rattle.cutting.specs.Kept.{Kept, Chosen, Closed, Smallest}

-- There is at most one smallest set of kept things.
abbrev pub SmallestIsUnique : Type 0
SmallestIsUnique = (s : Sheet) (chosen : Chosen) (j k : Kept) → Smallest s chosen j → Smallest s chosen k → j ≡ k

-- So there is at most one cut for a set of questions.
abbrev pub CutIsUnique : Type 0
CutIsUnique = (s : Sheet) (set : ℕ) (t u : Sheet) → IsCutFor s set t → IsCutFor s set u → t ≡ u

-- A cut of an accepted sheet is accepted.
abbrev pub CutsAreAccepted : Type 0
CutsAreAccepted = (s : Sheet) (chosen : Chosen) (k : Kept) → Closed s chosen k → accepted s ≡ true → accepted (cut_sheet k chosen s) ≡ true

-- What a whole accepted sheet and the sheet of a pile on it have in common.
pub record Alike (a b : Sheet) : Type 0 where
  -- the pile's sheet is accepted
  pub accepts : accepted b ≡ true
  -- from their starts both agree throughout every list of calls
  pub agree : (xs : List RunCall) → Agree a b (start_state a) (start_state b) xs
  -- a question that the pile kept is true somewhere on the one exactly when it is true somewhere on the other
  pub on_the_pile : (q : ℕ) → IsKeptQuestion b q → TrueSomewhere a q → TrueSomewhere b q
  pub on_the_whole : (q : ℕ) → IsKeptQuestion b q → TrueSomewhere b q → TrueSomewhere a q

-- A whole accepted sheet and every pile on it are alike.
abbrev pub WholeAndPileAreAlike : Type 0
WholeAndPileAreAlike = (a b : Sheet) → accepted a ≡ true → Pile a b → Alike a b
