-- Walks over the rows: one row after another, one section after another, one pass after another.
use Rattle.std.proofs.Common.{◌≡◌, ℕ, ◌+◌, ◌-◌, ◌<◌, ◌≤◌, Bool, true, ◌⊎◌, List, length, Some, None, sym, ap, ◌∙◌, subst, inl, inr, ⊎_elim, arith}
use Rattle.std.proofs.lemmas.Bool.{cases_eq}
use Rattle.sheet.specs.Accept.{accepted}
use Rattle.sheet.specs.Sections.{Sheet, rows}
use Rattle.sheet.proofs.Firsts.{no_pass}
use Rattle.cutting.specs.Kept.{Chosen}
use Rattle.marking.specs.declared.kinds.Rule.{Rule}
use Rattle.marking.specs.Items.{places}
use Rattle.marking.specs.Passes.{unmarked, OfSection, EveryRow, Needed, Passed, Settled}
use Rattle.marking.specs.Rules.{rule_at, applied}
use Rattle.marking.proofs.Origins.{inside, origin}
use Rattle.marking.proofs.Passes.{needed_join, passed_none, passed_join, passed_as, passed_row}
use Rattle.marking.proofs.Placing.{rule_placed}
use Rattle.marking.proofs.Tables.{grown_same}

-- the rows of a section from row n on
abbrev pub RowsFrom : (section n : ℕ) → (k i : ℕ) → Type 0
RowsFrom section n k i = (k ≡ section) × (n ≤ i)

-- the rows of the sections below n
abbrev pub SectionsBelow : ℕ → (k i : ℕ) → Type 0
SectionsBelow n k i = k < n

module _ (s : Sheet) (section : ℕ) where
  -- past the rows of a section there is no rule
  pub rows_none : (n : ℕ) (a : List Bool) → length (rows s section) ≤ n → Passed s (RowsFrom section n) a a
  rows_none n a l =
      passed_none s (RowsFrom section n) a
      (λ k i r seen e.
      let p = inside s k i r (origin s k i r e) in
      let within : i < length (rows s section) = subst (λ (k : ℕ). i < length (rows s k)) seen.0 p.row in
      omega arith)

  module _ (n : ℕ) (a b : List Bool) (p : Passed s (RowsFrom section n) a b) where
    one_more : (k i : ℕ) → 0 < n → RowsFrom section (n - 1) k i → RowsFrom section n k i ⊎ ((k ≡ section) × (i ≡ n - 1))
    one_more k i some seen = ⊎_elim (λ (e : i ≡ n - 1). inr (seen.0, e)) (λ (e : i ≡ n - 1 → ⊥). inl (seen.0, omega arith)) (cases_eq i (n - 1))

    -- one row further down
    pub rows_more : accepted s ≡ true → length a ≡ places → 0 < n → (r : Rule) → rule_at s section (n - 1) ≡ Some r → Passed s (RowsFrom section (n - 1)) a (applied b r)
    rows_more acc long some r e =
        let long_b : length b ≡ places = (p.needed (λ q. true)).long ∙ long in
        let row = passed_row s section (n - 1) b long_b r e (rule_placed s acc section (n - 1) r e) in
        passed_as s (λ k i. RowsFrom section n k i ⊎ ((k ≡ section) × (i ≡ n - 1))) (RowsFrom section (n - 1)) a (applied b r) (λ k i r seen e. one_more k i some seen)
        (passed_join s (RowsFrom section n) (λ k i. (k ≡ section) × (i ≡ n - 1)) a b (applied b r) p row)

    pub rows_blank : 0 < n → rule_at s section (n - 1) ≡ None → Passed s (RowsFrom section (n - 1)) a b
    rows_blank some e =
        passed_as s (RowsFrom section n) (RowsFrom section (n - 1)) a b
        (λ k i r seen f.
        ⊎_elim
        (λ (q : RowsFrom section n k i). q)
        (λ (q : (k ≡ section) × (i ≡ n - 1)). no_pass r (sym f ∙ ap (λ k. rule_at s k i) q.0 ∙ ap (rule_at s section) q.1 ∙ e))
        (one_more k i some seen))
        p

    pub rows_all : n ≤ 0 → Passed s (OfSection section) a b
    rows_all l = passed_as s (RowsFrom section n) (OfSection section) a b (λ k i r seen e. (seen, omega arith)) p

module _ (s : Sheet) where
  -- below the nodes there is no rule
  pub sections_none : (a : List Bool) → Passed s (SectionsBelow 3) a a
  sections_none a = passed_none s (SectionsBelow 3) a (λ k i r seen e. let p = inside s k i r (origin s k i r e) in omega (arith, p.from_nodes))

  module _ (n : ℕ) (a b : List Bool) (p : Passed s (SectionsBelow n) a b) where
    pub sections_more : (c : List Bool) → Passed s (OfSection n) b c → Passed s (SectionsBelow (n + 1)) a c
    sections_more c q =
        passed_as s (λ k i. SectionsBelow n k i ⊎ OfSection n k i) (SectionsBelow (n + 1)) a c
        (λ k i r seen e. ⊎_elim (λ (e : k ≡ n). inr e) (λ (e : k ≡ n → ⊥). inl (omega arith)) (cases_eq k n))
        (passed_join s (SectionsBelow n) (OfSection n) a b c p q)

    -- nor from the questions on
    pub sections_all : 8 ≤ n → Passed s EveryRow a b
    sections_all l = passed_as s (SectionsBelow n) EveryRow a b (λ k i r seen e. let q = inside s k i r (origin s k i r e) in omega (arith, q.to_settings)) p

-- ---- whether a pass marked anything

module _ (s : Sheet) (a b : List Bool) (p : Passed s EveryRow a b) where
  pub pass_same : unmarked a ≤ unmarked b → b ≡ a
  pass_same l = let q = p.needed (λ n. true) in grown_same a b q.long q.grows l

  -- a pass that marks nothing is the last
  pub settled : (start : List Bool) → ((chosen : Chosen) → Needed s chosen start a) → b ≡ a → Settled s start b
  settled start before same =
      record {
        needed = λ chosen. needed_join s chosen start a b (before chosen) (p.needed chosen);
        by_rows = λ k i r e. let whole : Passed s EveryRow b b = subst (λ (t : List Bool). Passed s EveryRow t b) (sym same) p in whole.applies k i r tt e;
      }
