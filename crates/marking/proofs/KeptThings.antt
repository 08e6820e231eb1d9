-- A table in which everything is marked that the rules ask for, and nothing else, has the kept things and the nodes that
-- remain.
use Rattle.std.proofs.Common.{◌≡◌, ℕ, Bool, true, false, List, length, sym, refl}
use Rattle.std.proofs.lemmas.Bool.{both_ways}
use Rattle.sheet.specs.Accept.{accepted}
use Rattle.sheet.specs.Sections.{Sheet}
use Rattle.cutting.specs.declared.kinds.Thing.{Thing}
use Rattle.cutting.specs.CutSheet.{is_used}
use Rattle.cutting.specs.Kept.{Kept, Chosen, Closed, Smallest, chosen_in}
use Rattle.marking.specs.declared.kinds.Item.{Item}
use Rattle.marking.specs.declared.kinds.Item.TheVariants.{Thing as ThatThing, Node as ThatNode}
use Rattle.marking.specs.Items.{places, marked, MarksWithin}
use Rattle.marking.specs.Passes.{Asked, Settled}
use Rattle.marking.specs.Rules.{RulesHold}
use Rattle.marking.proofs.Closing.{things_closed, remaining_in}
use Rattle.marking.proofs.Remaining.{with_nodes, closed_holds}
use Rattle.marking.proofs.Tables.{no_mode_0, stays_marked}

same_truth : (b c : Bool) → (b ≡ true → c ≡ true) → (c ≡ true → b ≡ true) → b ≡ c
same_truth true c to from = sym (to refl)
same_truth false true to from = from refl
same_truth false false to from = refl

module _ (s : Sheet) (a : accepted s ≡ true) (chosen : Chosen) (table : List Bool) (long : length table ≡ places) (rules : RulesHold s chosen (marked table)) (least : (j : Item → Bool) → RulesHold s chosen j → MarksWithin table j) where
  abbrev kept : Kept
  kept x = marked table (ThatThing x)

  all_closed : Closed s chosen kept
  all_closed = things_closed s a chosen (marked table) rules (no_mode_0 table)

  things_smallest : Smallest s chosen kept
  things_smallest = record { closed = all_closed; least = λ k closed x h. least (with_nodes k chosen s) (closed_holds s a chosen k closed) (ThatThing x) h }

  nodes_remain : (n : ℕ) → marked table (ThatNode n) ≡ is_used kept chosen s n
  nodes_remain n =
      same_truth (marked table (ThatNode n)) (is_used kept chosen s n)
      (least (with_nodes kept chosen s) (closed_holds s a chosen kept all_closed) (ThatNode n))
      (remaining_in s a chosen (marked table) rules n)

-- From an empty table, first the chosen questions, then all that the rules ask for.
module _ (s : Sheet) (a : accepted s ≡ true) (set : ℕ) (none asked settled : List Bool) (long : length settled ≡ places) (empty : (x : Item) → marked none x ≡ false) (by_questions : Asked s set none asked) (by_rules : Settled s asked settled) where
  rules : RulesHold s (chosen_in set) (marked settled)
  rules =
      record {
        by_rows = by_rules.by_rows;
        by_questions = λ q x h e. stays_marked asked settled (by_rules.needed (chosen_in set)).grows (ThatNode x.node) (by_questions.by_questions q x h e);
      }

  least : (j : Item → Bool) → RulesHold s (chosen_in set) j → MarksWithin settled j
  least j r = (by_rules.needed (chosen_in set)).within j r (by_questions.needed.within j r (λ x h. absurd (both_ways (marked none x) (empty x) h)))

  pub smallest_marks : Smallest s (chosen_in set) (λ (x : Thing). marked settled (ThatThing x))
  smallest_marks = things_smallest s a (chosen_in set) settled long rules least

  pub remaining_marks : (n : ℕ) → marked settled (ThatNode n) ≡ is_used (λ (x : Thing). marked settled (ThatThing x)) (chosen_in set) s n
  remaining_marks = nodes_remain s a (chosen_in set) settled long rules least
