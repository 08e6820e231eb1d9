-- Passes over the rows, and how they end.
use Rattle.std.specs.Prelude.{◌≡◌, ℕ, Bool, true, false, not, List, length, Some, None, slice_index_or, count_by}
use Rattle.sheet.specs.declared.rows.Question.{Question}
use Rattle.sheet.specs.Lookup.{question_at}
use Rattle.sheet.specs.Sections.{Sheet}
use Rattle.cutting.specs.CutSheet.{cut_fault}
use Rattle.cutting.specs.Kept.{Chosen, chosen_in}
use Rattle.marking.specs.declared.kinds.Item.{Item}
use Rattle.marking.specs.declared.kinds.Item.TheVariants.{Node as ThatNode}
use Rattle.marking.specs.declared.kinds.Rule.{Rule}
use Rattle.marking.specs.Items.{marked, MarksWithin}
use Rattle.marking.specs.Rules.{rule_at, Holds, RulesHold}

-- the places of a table that are not marked
abbrev pub unmarked : List Bool → ℕ
unmarked t = count_by not t

-- The marks of a are marks of b, and b has no other mark than those that every set with the marks of a has, if the rules
-- hold of it.
pub record Needed (s : Sheet) (chosen : Chosen) (a b : List Bool) : Type 0 where
  pub long : length b ≡ length a
  pub grows : (p : ℕ) → slice_index_or a p false ≡ true → slice_index_or b p false ≡ true
  pub within : (j : Item → Bool) → RulesHold s chosen j → MarksWithin a j → MarksWithin b j

-- the rows of a section
abbrev pub OfSection : ℕ → (k i : ℕ) → Type 0
OfSection section k i = k ≡ section

-- all rows
abbrev pub EveryRow : (k i : ℕ) → Type 0
EveryRow k i = Unit {0}

-- From a to b the rules of some rows were applied.
pub record Passed (s : Sheet) (seen : ℕ → ℕ → Type 0) (a b : List Bool) : Type 0 where
  pub needed : (chosen : Chosen) → Needed s chosen a b
  pub applies : (k i : ℕ) (r : Rule) → seen k i → rule_at s k i ≡ Some r → Holds r (marked a) (marked b)

-- From a to b the nodes of the chosen questions were marked, all of which are there.
pub record Asked (s : Sheet) (set : ℕ) (a b : List Bool) : Type 0 where
  pub is_there : cut_fault s set ≡ None
  pub needed : Needed s (chosen_in set) a b
  pub by_questions : (q : ℕ) (x : Question) → chosen_in set q ≡ true → question_at s q ≡ Some x → marked b (ThatNode x.node) ≡ true

-- From a to b everything was marked that the rules ask for.
pub record Settled (s : Sheet) (a b : List Bool) : Type 0 where
  pub needed : (chosen : Chosen) → Needed s chosen a b
  pub by_rows : (k i : ℕ) (r : Rule) → rule_at s k i ≡ Some r → Holds r (marked b) (marked b)
