-- The chosen questions, one after the other.
use Rattle.std.proofs.Common.{◌≡◌, ℕ, ◌+◌, ◌^◌, ◌<◌, ◌≤◌, Bool, true, false, not, ◌||◌, List, [], ◌∷◌, length, is_some, Some, None, sym, refl, ap, ◌∙◌, ⊎_elim, arith, pow_mono}
use native.Mathlib.Nat.{div-eq_of_lt}
use Rattle.std.proofs.lemmas.Bool.{both_ways, cases_lt, ne_eqb}
use Rattle.sheet.specs.declared.rows.Question.{Question}
use Rattle.sheet.specs.Accept.{accepted}
use Rattle.sheet.specs.Lookup.{question_at}
use Rattle.sheet.specs.Sections.{Sheet}
use Rattle.sheet.specs.Tries.{Try, must, first_fault, each}
use Rattle.sheet.proofs.Firsts.{each_more, each_stops}
use Rattle.running.proofs.Finds.{same_found}
use Rattle.cutting.specs.declared.kinds.NoCut.{NoCut}
use Rattle.cutting.specs.declared.kinds.NoCut.TheVariants.{EmptySet, NoQuestion}
use Rattle.cutting.specs.CutSheet.{cut_fault}
use Rattle.cutting.specs.Kept.{chosen_in}
use Rattle.marking.specs.declared.kinds.Item.TheVariants.{Node as ThatNode}
use Rattle.marking.specs.Items.{places, marked, with_mark}
use Rattle.marking.specs.Passes.{Needed, Asked}
use Rattle.marking.proofs.Passes.{needed_none, needed_join}
use Rattle.marking.proofs.Placing.{question_placed}
use Rattle.marking.proofs.Tables.{mark_placed, mark_grows, mark_long, mark_only, stays_marked}

-- a set of 16 bits has no question from 16 on
pub chosen_below : (set q : ℕ) → set < 2 ^ 16 → 16 ≤ q → chosen_in set q ≡ false
chosen_below set q small l = let low : set < 2 ^ q = omega (arith, small, pow_mono l) in rw (div-eq_of_lt low)

-- the try of question q
abbrev try_of : Sheet → ℕ → ℕ → List (Try NoCut)
try_of s set q = must (not (chosen_in set q) || is_some (question_at s q)) (NoQuestion q) ∷ []

-- From a to b the nodes of the chosen questions below n were marked, all of which are there.
pub record AskedBelow (s : Sheet) (set : ℕ) (a b : List Bool) (n : ℕ) : Type 0 where
  pub passes : first_fault (each n (λ q. must (not (chosen_in set q) || is_some (question_at s q)) (NoQuestion q) ∷ [])) ≡ None
  pub needed : Needed s (chosen_in set) a b
  pub by_questions : (q : ℕ) (x : Question) → q < n → chosen_in set q ≡ true → question_at s q ≡ Some x → marked b (ThatNode x.node) ≡ true

module _ (s : Sheet) (set : ℕ) where
  pub asked_none : (a : List Bool) → AskedBelow s set a a 0
  asked_none a = record { passes = refl; needed = needed_none s (chosen_in set) a; by_questions = λ q x l h e. absurd (omega arith) }

  -- a question that is not chosen
  pub asked_not : (a b : List Bool) (n : ℕ) → chosen_in set n ≡ false → AskedBelow s set a b n → AskedBelow s set a b (n + 1)
  asked_not a b n h p =
      record {
        passes = each_more (try_of s set) n p.passes (rw h);
        needed = p.needed;
        by_questions = λ q x l c e.
            ⊎_elim
            (λ (below : q < n). p.by_questions q x below c e)
            (λ (up : n ≤ q). let same : q ≡ n = omega arith in absurd (both_ways (chosen_in set n) h (ap (chosen_in set) (sym same) ∙ c)))
            (cases_lt q n);
      }

  mark_needed : (a : List Bool) → length a ≡ places → (n : ℕ) (x : Question) → chosen_in set n ≡ true → question_at s n ≡ Some x → Needed s (chosen_in set) a (with_mark a (ThatNode x.node))
  mark_needed a long n x c e =
      record {
        long = mark_long a (ThatNode x.node);
        grows = mark_grows a (ThatNode x.node);
        within = λ j rules w. mark_only a (ThatNode x.node) j (rules.by_questions n x c e) w;
      }

  -- one that is
  pub asked_more : accepted s ≡ true → (a b : List Bool) (n : ℕ) (x : Question) → length a ≡ places → chosen_in set n ≡ true → question_at s n ≡ Some x → AskedBelow s set a b n → AskedBelow s set a (with_mark b (ThatNode x.node)) (n + 1)
  asked_more acc a b n x long c e p =
      let long_b : length b ≡ places = p.needed.long ∙ long in
      let t = with_mark b (ThatNode x.node) in
      record {
        passes = each_more (try_of s set) n p.passes (rw (c, e));
        needed = needed_join s (chosen_in set) a b t p.needed (mark_needed b long_b n x c e);
        by_questions = λ q y l d f.
            ⊎_elim
            (λ (below : q < n). stays_marked b t (mark_grows b (ThatNode x.node)) (ThatNode y.node) (p.by_questions q y below d f))
            (λ (up : n ≤ q).
            let same : q ≡ n = omega arith in
            let one : x ≡ y = same_found (question_at s n) x y e (ap (question_at s) (sym same) ∙ f) in
            ap (λ y. marked t (ThatNode y.node)) (sym one) ∙ mark_placed b long_b (ThatNode x.node) (question_placed s acc n x e))
            (cases_lt q n);
      }

  -- one that is chosen and missing or blank
  pub asked_fails : (a b : List Bool) (n : ℕ) → n < 16 → (set ≡ 0 → ⊥) → chosen_in set n ≡ true → question_at s n ≡ None → AskedBelow s set a b n → cut_fault s set ≡ Some (NoQuestion n)
  asked_fails a b n l some c e p =
      let stops = each_stops (try_of s set) n 16 (NoQuestion n) p.passes (rw (c, e)) l in
      rw (ne_eqb set 0 some) stops

  -- the set is empty
  pub none_asked : set ≡ 0 → cut_fault s set ≡ Some EmptySet
  none_asked e = rw e

  -- all questions
  pub asked_all : (a b : List Bool) (n : ℕ) → set < 2 ^ 16 → (set ≡ 0 → ⊥) → n ≡ 16 → AskedBelow s set a b n → Asked s set a b
  asked_all a b n small some all p =
      let passes : first_fault (each 16 (try_of s set)) ≡ None = ap (λ n. first_fault (each n (try_of s set))) (sym all) ∙ p.passes in
      record {
        is_there = rw (ne_eqb set 0 some) passes;
        needed = p.needed;
        by_questions = λ q x h e.
            ⊎_elim
            (λ (below : q < 16). p.by_questions q x (omega arith) h e)
            (λ (up : 16 ≤ q). absurd (both_ways (chosen_in set q) (chosen_below set q small up) h))
            (cases_lt q 16);
      }
