-- What nodes give: the law of each kind, and which elements it depends on.
use Rattle.std.proofs.Common.{◌≡◌, ℕ, zero, suc, ◌<◌, ◌≤◌, Bool, true, false, not, ◌&&◌, ◌||◌, ltb, List, [], ◌∷◌, get_or, ℤ, pos, Some, None, Option, sym, refl, ap, ◌∙◌, ⊎_elim, arith}
use lib.Signed.{lt_z}
use Rattle.std.proofs.lemmas.Bool.{and_parts, or_parts, ltb-true, leb-false, cases_lt}
use Rattle.sheet.specs.declared.rows.Node.{Node}
use Rattle.sheet.specs.declared.rows.Node.TheVariants.{Constant, Element as Reading, Sum, Difference, True, Equal, Less, Not, And, InMode}
use Rattle.sheet.specs.declared.rows.Target.TheVariants.{ElementFrom}
use Rattle.sheet.specs.Accept.{accepted}
use Rattle.sheet.specs.Lookup.{node_at, is}
use Rattle.sheet.specs.Resting.{operands, hits, any_marked, mark, marks, rests}
use Rattle.sheet.specs.Rules.{node_names, value_node, condition_node}
use Rattle.sheet.specs.Sections.{Sheet, rows, nodes}
use Rattle.sheet.specs.Tables.{grow}
use Rattle.sheet.proofs.Meaning.{keeps_the_rules}
use Rattle.sheet.proofs.Tables.{grow_at, grow_past}
use Rattle.running.specs.declared.kinds.Worth.{Worth}
use Rattle.running.specs.declared.kinds.Worth.TheVariants.{Number, Truth}
use Rattle.running.specs.States.{State}
use Rattle.running.specs.Values.{plus, minus, same_number, number_in, truth_in, nothing, evaluated, evaluated_if, node_cell, node_over, values, node_value}
use Rattle.running.specs.Laws.{NodeLaws}

-- ---- the law of each kind

-- two operands with lower numbers
two_below : (n a b : ℕ) (p : ℕ → Bool) → ((ltb a n && p a) && (ltb b n && p b)) ≡ true → (a < n) × (b < n)
two_below n a b p h =
    let q = and_parts (ltb a n && p a) (ltb b n && p b) h in
    (ltb-true a n (and_parts (ltb a n) (p a) q.0).0, ltb-true b n (and_parts (ltb b n) (p b) q.1).0)

module _ (s : Sheet) (w : State) (a : accepted s ≡ true) where
  table : ℕ → List Worth
  table n = grow (node_cell s w (values s w)) n

  node_is : (n : ℕ) (o : Option Node) → node_at s n ≡ o → node_value s w n ≡ evaluated_if w (values s w) (table n) o
  unfolding table
  node_is n o e = ap (evaluated_if w (values s w) (grow (node_cell s w (values s w)) n)) e

  operand : (n b : ℕ) → b < n → get_or (table n) b nothing ≡ node_value s w b
  unfolding table
  operand n b l = grow_at (node_cell s w (values s w)) n b nothing l

  names : (n : ℕ) (x : Node) → node_at s n ≡ Some x → node_names s n x ≡ true
  names n x e = ((keeps_the_rules s a).nodes_right.passes n x e).names_right

  two_operands : (f : Worth → Worth → Worth) (n b c : ℕ) → (b < n) × (c < n) → f (get_or (table n) b nothing) (get_or (table n) c nothing) ≡ f (node_value s w b) (node_value s w c)
  two_operands f n b c l = ap (λ x. f x (get_or (table n) c nothing)) (operand n b l.0) ∙ ap (f (node_value s w b)) (operand n c l.1)

  pub node_laws : NodeLaws s w
  node_laws =
      record {
        constant = λ n z e. node_is n (Some (Constant z)) e;
        reading = λ n d e. node_is n (Some (Reading d)) e;
        sum = λ n b c e. node_is n (Some (Sum b c)) e ∙ two_operands (λ x y. Number (plus (number_in x) (number_in y))) n b c (two_below n b c (value_node s) (names n (Sum b c) e));
        difference = λ n b c e. node_is n (Some (Difference b c)) e ∙ two_operands (λ x y. Number (minus (number_in x) (number_in y))) n b c (two_below n b c (value_node s) (names n (Difference b c) e));
        truth = λ n e. node_is n (Some True) e;
        equal = λ n b c e. node_is n (Some (Equal b c)) e ∙ two_operands (λ x y. Truth (same_number (number_in x) (number_in y))) n b c (two_below n b c (value_node s) (names n (Equal b c) e));
        less = λ n b c e. node_is n (Some (Less b c)) e ∙ two_operands (λ x y. Truth (lt_z (number_in x) (number_in y))) n b c (two_below n b c (value_node s) (names n (Less b c) e));
        negation = λ n b e. node_is n (Some (Not b)) e ∙ ap (λ x. Truth (not (truth_in x))) (operand n b (ltb-true b n (and_parts (ltb b n) (condition_node s b) (names n (Not b) e)).0));
        both = λ n b c e. node_is n (Some (And b c)) e ∙ two_operands (λ x y. Truth (truth_in x && truth_in y)) n b c (two_below n b c (condition_node s) (names n (And b c) e));
        in_mode = λ n c m e. node_is n (Some (InMode c m)) e;
        no_node = λ n e. node_is n None e;
      }

-- ---- a node that rests on no element from e on gives the same over values that agree below e

module _ (w : State) (vs us : List ℤ) (e : ℕ) (agree : (d : ℕ) → d < e → get_or vs d (pos 0) ≡ get_or us d (pos 0)) where
  -- a node that is not marked, over tables that agree on the nodes that are not marked
  module _ (ms : List Bool) (t u : List Worth) (same : (o : ℕ) → get_or ms o false ≡ false → get_or t o nothing ≡ get_or u o nothing) where
    two_same : (f : Worth → Worth → Worth) (a b : ℕ) → any_marked ms (a ∷ b ∷ []) ≡ false → f (get_or t a nothing) (get_or t b nothing) ≡ f (get_or u a nothing) (get_or u b nothing)
    two_same f a b h =
        let p = or_parts (get_or ms a false) (get_or ms b false || false) h in
        let q = or_parts (get_or ms b false) false p.1 in
        ap (λ x. f x (get_or t b nothing)) (same a p.0) ∙ ap (f (get_or u a nothing)) (same b q.0)

    evaluated_same : (n : ℕ) (x : Node) → hits (ElementFrom e) n x ≡ false → any_marked ms (operands x) ≡ false → evaluated w vs t x ≡ evaluated w us u x
    evaluated_same n (Constant z) h k = refl
    evaluated_same n (Reading d) h k = ap Number (agree d (leb-false e d h))
    evaluated_same n (Sum a b) h k = two_same (λ x y. Number (plus (number_in x) (number_in y))) a b k
    evaluated_same n (Difference a b) h k = two_same (λ x y. Number (minus (number_in x) (number_in y))) a b k
    evaluated_same n True h k = refl
    evaluated_same n (Equal a b) h k = two_same (λ x y. Truth (same_number (number_in x) (number_in y))) a b k
    evaluated_same n (Less a b) h k = two_same (λ x y. Truth (lt_z (number_in x) (number_in y))) a b k
    evaluated_same n (Not a) h k = ap (λ x. Truth (not (truth_in x))) (same a (or_parts (get_or ms a false) false k).0)
    evaluated_same n (And a b) h k = two_same (λ x y. Truth (truth_in x && truth_in y)) a b k
    evaluated_same n (InMode c m) h k = refl

    evaluated_if_same : (n : ℕ) (o : Option Node) → is o (λ x. hits (ElementFrom e) n x || any_marked ms (operands x)) ≡ false → evaluated_if w vs t o ≡ evaluated_if w us u o
    evaluated_if_same n None h = refl
    evaluated_if_same n (Some x) h = let p = or_parts (hits (ElementFrom e) n x) (any_marked ms (operands x)) h in evaluated_same n x p.0 p.1

  module _ (s : Sheet) where
    -- the tables of the nodes before n agree on those that are not marked
    tables_same : (n : ℕ) → ((o : ℕ) → o < n → rests s (ElementFrom e) o ≡ false → node_over s w vs o ≡ node_over s w us o) → (o : ℕ) → get_or (marks (rows s nodes) (ElementFrom e) n) o false ≡ false → get_or (grow (node_cell s w vs) n) o nothing ≡ get_or (grow (node_cell s w us) n) o nothing
    tables_same n before o h =
        ⊎_elim
        (λ (l : o < n).
        grow_at (node_cell s w vs) n o nothing l
        ∙ before o l (sym (grow_at (mark (rows s nodes) (ElementFrom e)) n o false l) ∙ h)
        ∙ sym (grow_at (node_cell s w us) n o nothing l))
        (λ (l : n ≤ o). grow_past (node_cell s w vs) n o nothing l ∙ sym (grow_past (node_cell s w us) n o nothing l))
        (cases_lt o n)

    over_same : (k n : ℕ) → n < k → rests s (ElementFrom e) n ≡ false → node_over s w vs n ≡ node_over s w us n
    over_same zero n l h = absurd (omega arith)
    over_same (suc k) n l h =
        evaluated_if_same (marks (rows s nodes) (ElementFrom e) n) (grow (node_cell s w vs) n) (grow (node_cell s w us) n)
        (tables_same n (λ o b. over_same k o (omega arith)))
        n (node_at s n) h

    pub node_over_same : (n : ℕ) → rests s (ElementFrom e) n ≡ false → node_over s w vs n ≡ node_over s w us n
    node_over_same n h = over_same (suc n) n (omega arith) h
