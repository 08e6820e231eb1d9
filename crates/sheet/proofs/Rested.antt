-- The marks of the nodes say what they rest on.
use Rattle.std.proofs.Common.{◌≡◌, ℕ, zero, suc, ◌<◌, ◌≤◌, Bool, true, false, ◌&&◌, ◌||◌, eqb, ltb, List, [], ◌∷◌, get_or, Some, Decides, sym, refl, ap, ◌∙◌, ⊎_elim, arith}
use Rattle.std.proofs.lemmas.Bool.{false≢true, and_parts, or_cases, or_left, or_right, eqb-true, eq-eqb, ltb-true, cases_lt}
use Rattle.sheet.specs.declared.rows.Node.{Node}
use Rattle.sheet.specs.declared.rows.Node.TheVariants.{Constant, Element as Reading, Sum, Difference, True, Equal, Less, Not, And, InMode}
use Rattle.sheet.specs.declared.rows.Target.{Target}
use Rattle.sheet.specs.declared.rows.Target.TheVariants.{Node as ThatNode}
use Rattle.sheet.specs.Sections.{Row, Sheet, rows, nodes}
use Rattle.sheet.specs.Typed.{node_entry}
use Rattle.sheet.specs.Lookup.{there, node_at}
use Rattle.sheet.specs.Resting.{operands, hits, any_marked, mark, marks, rests, among, Reaches, itself, through, RestsOn}
use Rattle.sheet.specs.Rules.{value_node, condition_node, node_names}
use Rattle.sheet.specs.Accept.{accepted}
use Rattle.sheet.specs.Laws.{RestingIsReaching}
use Rattle.sheet.proofs.Lookups.{is_cases, is_from}
use Rattle.sheet.proofs.Meaning.{keeps_the_rules}
use Rattle.sheet.proofs.Tables.{grow_at, grow_past}

-- ---- a marked operand

pub among_first : (a : ℕ) (os : List ℕ) → among a (a ∷ os) ≡ true
among_first a os = or_left (eqb a a) (among a os) (eq-eqb a a refl)

pub among_second : (a b : ℕ) → among b (a ∷ b ∷ []) ≡ true
among_second a b = or_right (eqb b a) (among b (b ∷ [])) (among_first b [])

marked_operand : (ms : List Bool) (os : List ℕ) → any_marked ms os ≡ true → (o : ℕ) × (among o os ≡ true) × (get_or ms o false ≡ true)
marked_operand ms [] e = absurd (false≢true e)
marked_operand ms (a ∷ os) e =
    ⊎_elim
    (λ (h : get_or ms a false ≡ true). (a, among_first a os, h))
    (λ (h : any_marked ms os ≡ true). let p = marked_operand ms os h in (p.0, or_right (eqb p.0 a) (among p.0 os) p.1, p.2))
    (or_cases (get_or ms a false) (any_marked ms os) e)

operand_marked : (ms : List Bool) (os : List ℕ) (o : ℕ) → among o os ≡ true → get_or ms o false ≡ true → any_marked ms os ≡ true
operand_marked ms [] o a h = absurd (false≢true a)
operand_marked ms (b ∷ os) o a h =
    ⊎_elim
    (λ (e : eqb o b ≡ true). or_left (get_or ms b false) (any_marked ms os) (ap (λ k. get_or ms k false) (sym (eqb-true o b e)) ∙ h))
    (λ (e : among o os ≡ true). or_right (get_or ms b false) (any_marked ms os) (operand_marked ms os o e h))
    (or_cases (eqb o b) (among o os) a)

module _ (ns : List Row) (t : Target) where
  marked_below : (n o : ℕ) → get_or (marks ns t n) o false ≡ true → o < n
  marked_below n o h =
      ⊎_elim
      (λ (l : o < n). l)
      (λ (l : n ≤ o). absurd (false≢true (sym (grow_past (mark ns t) n o false l) ∙ h)))
      (cases_lt o n)

  -- ---- a mark comes from a node that is reached

  -- a node rests on what its operands rest on
  further : (n o : ℕ) (x : Node) → there node_entry ns n ≡ Some x → among o (operands x) ≡ true → RestsOn ns t o → RestsOn ns t n
  further n o x e a r = record { node = r.node; value = r.value; reached = through e a r.reached; stands = r.stands; hit = r.hit }

  pub mark_rests : (k n : ℕ) → n < k → mark ns t n (marks ns t n) ≡ true → RestsOn ns t n
  mark_rests zero n l h = absurd (omega arith)
  mark_rests (suc k) n l h =
      let p = is_cases (there node_entry ns n) (λ x. hits t n x || any_marked (marks ns t n) (operands x)) h in
      let x = p.0 in
      ⊎_elim
      (λ (e : hits t n x ≡ true). record { node = n; value = x; reached = itself; stands = p.1; hit = e })
      (λ (e : any_marked (marks ns t n) (operands x) ≡ true).
      let q = marked_operand (marks ns t n) (operands x) e in
      let below = marked_below n q.0 q.2 in
      further n q.0 x p.1 q.1 (mark_rests k q.0 (omega arith) (sym (grow_at (mark ns t) n q.0 false below) ∙ q.2)))
      (or_cases (hits t n x) (any_marked (marks ns t n) (operands x)) p.2)

  -- ---- and a node that is reached gives a mark, where operands have lower numbers

  module _ (lower : (n o : ℕ) (x : Node) → there node_entry ns n ≡ Some x → among o (operands x) ≡ true → o < n) where
    reached_mark : {n m : ℕ} → Reaches ns n m → (x : Node) → there node_entry ns m ≡ Some x → hits t m x ≡ true → mark ns t n (marks ns t n) ≡ true
    reached_mark {n} itself x e h = is_from (there node_entry ns n) (λ x. hits t n x || any_marked (marks ns t n) (operands x)) x e (or_left (hits t n x) (any_marked (marks ns t n) (operands x)) h)
    reached_mark {n} (through {o = o} {x = y} d a r) x e h =
        let m = grow_at (mark ns t) n o false (lower n o y d a) ∙ reached_mark r x e h in
        is_from (there node_entry ns n) (λ x. hits t n x || any_marked (marks ns t n) (operands x)) y d (or_right (hits t n y) (any_marked (marks ns t n) (operands y)) (operand_marked (marks ns t n) (operands y) o a m))

    pub mark_decides : (n : ℕ) → Decides (mark ns t n (marks ns t n)) (RestsOn ns t n)
    mark_decides n = (mark_rests (suc n) n (omega arith), λ r. reached_mark r.reached r.value r.stands r.hit)

-- ---- the operands of an accepted sheet's nodes have lower numbers

pub one_of_two : (o a b : ℕ) (P : ℕ → Type 0) → P a → P b → among o (a ∷ b ∷ []) ≡ true → P o
one_of_two o a b P p q e =
    ⊎_elim
    (λ (h : eqb o a ≡ true). rw (eqb-true o a h) p)
    (λ (h : (eqb o b || false) ≡ true). ⊎_elim (λ (h : eqb o b ≡ true). rw (eqb-true o b h) q) (λ (h : false ≡ true). absurd (false≢true h)) (or_cases (eqb o b) false h))
    (or_cases (eqb o a) (eqb o b || false) e)

module _ (s : Sheet) (n o : ℕ) where
  below : (f : ℕ → Bool) (a : ℕ) → (ltb a n && f a) ≡ true → a < n
  below f a h = ltb-true a n (and_parts (ltb a n) (f a) h).0

  two_below : (f : ℕ → Bool) (a b : ℕ) → ((ltb a n && f a) && (ltb b n && f b)) ≡ true → among o (a ∷ b ∷ []) ≡ true → o < n
  two_below f a b h e =
      let p = and_parts (ltb a n && f a) (ltb b n && f b) h in
      one_of_two o a b (λ k. k < n) (below f a p.0) (below f b p.1) e

  operand_below : (x : Node) → node_names s n x ≡ true → among o (operands x) ≡ true → o < n
  operand_below (Constant v) h e = absurd (false≢true e)
  operand_below (Reading d) h e = absurd (false≢true e)
  operand_below (Sum a b) h e = two_below (value_node s) a b h e
  operand_below (Difference a b) h e = two_below (value_node s) a b h e
  operand_below True h e = absurd (false≢true e)
  operand_below (Equal a b) h e = two_below (value_node s) a b h e
  operand_below (Less a b) h e = two_below (value_node s) a b h e
  operand_below (Not a) h e =
      let l = below (condition_node s) a h in
      ⊎_elim (λ (h : eqb o a ≡ true). rw (eqb-true o a h) l) (λ (h : false ≡ true). absurd (false≢true h)) (or_cases (eqb o a) false e)
  operand_below (And a b) h e = two_below (condition_node s) a b h e
  operand_below (InMode c m) h e = absurd (false≢true e)

pub resting_is_reaching : (s : Sheet) → accepted s ≡ true → RestingIsReaching s
resting_is_reaching s a t n =
    mark_decides (rows s nodes) t (λ k o x e i. operand_below s k o x ((keeps_the_rules s a).nodes_right.passes k x e).names_right i) n

module _ (s : Sheet) (a : accepted s ≡ true) where
  -- a node rests on what it is or names
  pub rests_hit : (t : Target) (n : ℕ) (x : Node) → node_at s n ≡ Some x → hits t n x ≡ true → rests s t n ≡ true
  rests_hit t n x e h = (resting_is_reaching s a t n).1 (record { node = n; value = x; reached = itself; stands = e; hit = h })

  pub rests_itself : (n : ℕ) (x : Node) → node_at s n ≡ Some x → rests s (ThatNode n) n ≡ true
  rests_itself n x e = rests_hit (ThatNode n) n x e (eq-eqb n n refl)

  -- and on what its operands rest on
  pub rests_through : (t : Target) (n o : ℕ) (x : Node) → node_at s n ≡ Some x → among o (operands x) ≡ true → rests s t o ≡ true → rests s t n ≡ true
  rests_through t n o x e m h = (resting_is_reaching s a t n).1 (further (rows s nodes) t n o x e m ((resting_is_reaching s a t o).0 h))
