-- What marked nodes rest on, by the rules of the nodes.
use Rattle.std.proofs.Common.{◌≡◌, ℕ, Bool, true, false, ◌||◌, eqb, List, [], ◌∷◌, get_or, Some, None, Option, sym, refl, ap, ◌∙◌, subst, ⊎_elim}
use Rattle.std.proofs.lemmas.Bool.{false≢true, and_parts, and_from, or_cases, or_left, or_right, eqb-true, eq-eqb}
use Rattle.std.specs.Option.{option_map}
use Rattle.sheet.specs.declared.rows.Node.{Node}
use Rattle.sheet.specs.declared.rows.Node.TheVariants.{Constant, Element as Reading, Sum, Difference, True, Equal, Less, Not, And, InMode}
use Rattle.sheet.specs.declared.rows.Target.{Target}
use Rattle.sheet.specs.declared.rows.Target.TheVariants.{Node as TheNode, Element as TheElement, Mode as TheMode}
use Rattle.sheet.specs.Accept.{accepted}
use Rattle.sheet.specs.Lookup.{node_at}
use Rattle.sheet.specs.Resting.{operands, hits, among, rests, Reaches, itself, through}
use Rattle.sheet.specs.Sections.{Row, Sheet, rows, nodes}
use Rattle.sheet.proofs.Firsts.{no_pass}
use Rattle.sheet.proofs.Rested.{resting_is_reaching}
use Rattle.cutting.specs.declared.kinds.Thing.TheVariants.{Element as KeptElement, Mode as KeptMode}
use Rattle.cutting.specs.Agreement.{Every}
use Rattle.cutting.specs.Kept.{Chosen}
use Rattle.marking.specs.declared.kinds.Item.{Item}
use Rattle.marking.specs.declared.kinds.Item.TheVariants.{Thing as ThatThing, Node as ThatNode}
use Rattle.marking.specs.Rules.{node_rule, named_items, Effect, named, listed, RulesHold}
use Rattle.marking.proofs.Placing.{each_at}

-- ---- one node: what it names is an effect of its rule

module _ (n : ℕ) where
  one_operand : (a o : ℕ) (x : Node) → get_or (named_items x) 0 None ≡ Some (ThatNode a) → eqb o a ≡ true → Effect (node_rule n x) (ThatNode o)
  one_operand a o x e h = rw (eqb-true o a h) (named 0 e)

  two_operands : (a b o : ℕ) (x : Node) → get_or (named_items x) 0 None ≡ Some (ThatNode a) → get_or (named_items x) 1 None ≡ Some (ThatNode b) → among o (a ∷ b ∷ []) ≡ true → Effect (node_rule n x) (ThatNode o)
  two_operands a b o x e f h =
      ⊎_elim
      (λ (q : eqb o a ≡ true). one_operand a o x e q)
      (λ (q : (eqb o b || false) ≡ true). ⊎_elim (λ (u : eqb o b ≡ true). rw (eqb-true o b u) (named 1 f)) (λ (u : false ≡ true). absurd (false≢true u)) (or_cases (eqb o b) false q))
      (or_cases (eqb o a) (eqb o b || false) h)

  operand_effect : (x : Node) (o : ℕ) → among o (operands x) ≡ true → Effect (node_rule n x) (ThatNode o)
  operand_effect (Constant v) o h = absurd (false≢true h)
  operand_effect (Reading e) o h = absurd (false≢true h)
  operand_effect (Sum a b) o h = two_operands a b o (Sum a b) refl refl h
  operand_effect (Difference a b) o h = two_operands a b o (Difference a b) refl refl h
  operand_effect True o h = absurd (false≢true h)
  operand_effect (Equal a b) o h = two_operands a b o (Equal a b) refl refl h
  operand_effect (Less a b) o h = two_operands a b o (Less a b) refl refl h
  operand_effect (Not a) o h = ⊎_elim (λ (u : eqb o a ≡ true). one_operand a o (Not a) refl u) (λ (u : false ≡ true). absurd (false≢true u)) (or_cases (eqb o a) false h)
  operand_effect (And a b) o h = two_operands a b o (And a b) refl refl h
  operand_effect (InMode c m) o h = absurd (false≢true h)

  element_effect : (x : Node) (m e : ℕ) → hits (TheElement e) m x ≡ true → Effect (node_rule n x) (ThatThing (KeptElement e))
  element_effect (Constant v) m e h = absurd (false≢true h)
  element_effect (Reading d) m e h = named 0 (ap (λ d. Some (ThatThing (KeptElement d))) (eqb-true d e h))
  element_effect (Sum a b) m e h = absurd (false≢true h)
  element_effect (Difference a b) m e h = absurd (false≢true h)
  element_effect True m e h = absurd (false≢true h)
  element_effect (Equal a b) m e h = absurd (false≢true h)
  element_effect (Less a b) m e h = absurd (false≢true h)
  element_effect (Not a) m e h = absurd (false≢true h)
  element_effect (And a b) m e h = absurd (false≢true h)
  element_effect (InMode c k) m e h = absurd (false≢true h)

  same_mode : (d k c j : ℕ) → d ≡ c → k ≡ j → Some (ThatThing (KeptMode d k)) ≡ Some (ThatThing (KeptMode c j))
  same_mode d k c j e f = cc

  mode_effect : (x : Node) (m c j : ℕ) → hits (TheMode c j) m x ≡ true → Effect (node_rule n x) (ThatThing (KeptMode c j))
  mode_effect (Constant v) m c j h = absurd (false≢true h)
  mode_effect (Reading e) m c j h = absurd (false≢true h)
  mode_effect (Sum a b) m c j h = absurd (false≢true h)
  mode_effect (Difference a b) m c j h = absurd (false≢true h)
  mode_effect True m c j h = absurd (false≢true h)
  mode_effect (Equal a b) m c j h = absurd (false≢true h)
  mode_effect (Less a b) m c j h = absurd (false≢true h)
  mode_effect (Not a) m c j h = absurd (false≢true h)
  mode_effect (And a b) m c j h = absurd (false≢true h)
  mode_effect (InMode d k) m c j h = let p = and_parts (eqb d c) (eqb k j) h in named 0 (same_mode d k c j (eqb-true d c p.0) (eqb-true k j p.1))

-- ---- and the other way round

-- The item is an operand of node number n, which is y, or a thing that it names.
pub data Named (n : ℕ) (y : Node) : Item → Type 0 where
  operand : (o : ℕ) → among o (operands y) ≡ true → Named n y (ThatNode o)
  element : (e : ℕ) → hits (TheElement e) n y ≡ true → Named n y (ThatThing (KeptElement e))
  mode : (c m : ℕ) → hits (TheMode c m) n y ≡ true → Named n y (ThatThing (KeptMode c m))

module _ (n : ℕ) where
  -- each of the items is named
  abbrev NamedIf : Node → Option Item → Type 0
  NamedIf y None = Unit {0}
  NamedIf y (Some x) = Named n y x

  named_some : (y : Node) (o : Option Item) → NamedIf y o → (x : Item) → o ≡ Some x → Named n y x
  named_some y None p x e = no_pass x (sym e)
  named_some y (Some z) p x e = let same : z ≡ x = cc in subst (Named n y) same p

  abbrev AllNamed : Node → Type 0
  AllNamed y = Every (NamedIf y) (named_items y)

  among_first : (a b : ℕ) → among a (a ∷ b ∷ []) ≡ true
  among_first a b = or_left (eqb a a) (eqb a b || false) (eq-eqb a a refl)

  among_second : (a b : ℕ) → among b (a ∷ b ∷ []) ≡ true
  among_second a b = or_right (eqb b a) (eqb b b || false) (or_left (eqb b b) false (eq-eqb b b refl))

  all_named : (y : Node) → AllNamed y
  all_named (Constant v) = (tt, (tt, (tt, tt)))
  all_named (Reading e) = (element e (eq-eqb e e refl), (tt, (tt, tt)))
  all_named (Sum a b) = (operand a (among_first a b), (operand b (among_second a b), (tt, tt)))
  all_named (Difference a b) = (operand a (among_first a b), (operand b (among_second a b), (tt, tt)))
  all_named True = (tt, (tt, (tt, tt)))
  all_named (Equal a b) = (operand a (among_first a b), (operand b (among_second a b), (tt, tt)))
  all_named (Less a b) = (operand a (among_first a b), (operand b (among_second a b), (tt, tt)))
  all_named (Not a) = (operand a (or_left (eqb a a) false (eq-eqb a a refl)), (tt, (tt, tt)))
  all_named (And a b) = (operand a (among_first a b), (operand b (among_second a b), (tt, tt)))
  all_named (InMode c m) = (mode c m (and_from (eqb c c) (eqb m m) (eq-eqb c c refl) (eq-eqb m m refl)), (tt, (tt, tt)))

  pub effect_named : (y : Node) (x : Item) → Effect (node_rule n y) x → Named n y x
  effect_named y x (named i e) = named_some y (get_or (named_items y) i None) (each_at (NamedIf y) tt (named_items y) (all_named y) i) x e
  effect_named y x (listed {o = o} q h) = no_pass o (sym q)

-- ---- all that a node of the set rests on is in the set

module _ (s : Sheet) (a : accepted s ≡ true) (chosen : Chosen) (j : Item → Bool) (rules : RulesHold s chosen j) where
  node_effects : (n : ℕ) (y : Node) → node_at s n ≡ Some y → j (ThatNode n) ≡ true → (x : Item) → Effect (node_rule n y) x → j x ≡ true
  node_effects n y e h = rules.by_rows nodes n (node_rule n y) (ap (option_map (node_rule n)) e) (or_left (j (ThatNode n)) (false || false) h)

  reaches : {n m : ℕ} → Reaches (rows s nodes) n m → j (ThatNode n) ≡ true → j (ThatNode m) ≡ true
  reaches itself h = h
  reaches {n} (through {o = o} {x = x} e i r) h = reaches r (node_effects n x e h (ThatNode o) (operand_effect n x o i))

  pub rests_element : (n e : ℕ) → j (ThatNode n) ≡ true → rests s (TheElement e) n ≡ true → j (ThatThing (KeptElement e)) ≡ true
  rests_element n e h r =
      let p = (resting_is_reaching s a (TheElement e) n).0 r in
      node_effects p.node p.value p.stands (reaches p.reached h) (ThatThing (KeptElement e)) (element_effect p.node p.value p.node e p.hit)

  pub rests_mode : (n c m : ℕ) → j (ThatNode n) ≡ true → rests s (TheMode c m) n ≡ true → j (ThatThing (KeptMode c m)) ≡ true
  rests_mode n c m h r =
      let p = (resting_is_reaching s a (TheMode c m) n).0 r in
      node_effects p.node p.value p.stands (reaches p.reached h) (ThatThing (KeptMode c m)) (mode_effect p.node p.value p.node c m p.hit)

  pub rests_node : (n o : ℕ) → j (ThatNode n) ≡ true → rests s (TheNode o) n ≡ true → j (ThatNode o) ≡ true
  rests_node n o h r =
      let p = (resting_is_reaching s a (TheNode o) n).0 r in
      ap (λ i. j (ThatNode i)) (sym (eqb-true p.node o p.hit)) ∙ reaches p.reached h

-- ---- resting goes on

on_from : {ns : List Row} {n m o : ℕ} → Reaches ns n m → Reaches ns m o → Reaches ns n o
on_from itself q = q
on_from (through e i p) q = through e i (on_from p q)

module _ (s : Sheet) (a : accepted s ≡ true) where
  -- what rests on node n rests on all that n rests on
  pub rests_on_from : (t : Target) (r n : ℕ) → rests s (TheNode n) r ≡ true → rests s t n ≡ true → rests s t r ≡ true
  rests_on_from t r n h g =
      let p = (resting_is_reaching s a (TheNode n) r).0 h in
      let q = (resting_is_reaching s a t n).0 g in
      let there : Reaches (rows s nodes) r n = subst (λ (m : ℕ). Reaches (rows s nodes) r m) (eqb-true p.node n p.hit) p.reached in
      (resting_is_reaching s a t r).1 (record { node = q.node; value = q.value; reached = on_from there q.reached; stands = q.stands; hit = q.hit })
