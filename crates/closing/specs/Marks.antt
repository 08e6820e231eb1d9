-- What marks keep.
use Rattle.std.specs.Prelude.{◌≡◌, ℕ, Bool, None}
use Rattle.sheet.specs.Sections.{Sheet}
use Rattle.cutting.specs.CutSheet.{is_used, cut_fault}
use Rattle.cutting.specs.Kept.{Kept, chosen_in, Smallest}
use Rattle.marking.specs.declared.kinds.Item.TheVariants.{Thing as ThatThing, Node as ThatNode}
use Rattle.marking.specs.Items.{marked}
use Rattle.closing.specs.declared.marks.Marks.{Marks}

-- the things that are kept
abbrev pub kept_of : Marks → Kept
kept_of m x = marked m.table (ThatThing x)

-- node n is kept
abbrev pub node_kept : Marks → ℕ → Bool
node_kept m n = marked m.table (ThatNode n)

-- There is a cut of s for the set of questions; the marks keep its things, and the nodes on which something that remains
-- rests.
pub record KeepsFor (s : Sheet) (set : ℕ) (m : Marks) : Type 0 where
  pub is_there : cut_fault s set ≡ None
  pub smallest : Smallest s (chosen_in set) (kept_of m)
  pub nodes : (n : ℕ) → node_kept m n ≡ is_used (kept_of m) (chosen_in set) s n
