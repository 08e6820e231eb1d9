-- What nodes rest on, in an accepted sheet and in one that has fewer of its nodes, and which rest on no mode.
use Rattle.std.proofs.Common.{◌≡◌, ℕ, ◌+◌, true, ◌&&◌, ltb, List, [], ◌∷◌, Some, sym, refl, ◌∙◌, subst, arith}
use Rattle.std.proofs.lemmas.Bool.{false≢true, true≢false, and_parts, eqb-true, not-true}
use Rattle.sheet.specs.declared.rows.Flow.{Flow}
use Rattle.sheet.specs.declared.rows.Node.{Node}
use Rattle.sheet.specs.declared.rows.Node.TheVariants.{Constant, Element as Reading, Sum, Difference, True, Equal, Less, Not, And, InMode}
use Rattle.sheet.specs.declared.rows.Setting.{Setting}
use Rattle.sheet.specs.declared.rows.Target.{Target}
use Rattle.sheet.specs.declared.rows.Target.TheVariants.{Node as ThatNode, Mode as ThatMode, AnyMode}
use Rattle.sheet.specs.declared.rows.Transition.{Transition}
use Rattle.sheet.specs.Accept.{accepted}
use Rattle.sheet.specs.Lookup.{element_at, node_at, flow_at, transition_at, setting_at, is}
use Rattle.sheet.specs.Resting.{operands, hits, rests, among, Reaches, itself, through}
use Rattle.sheet.specs.Rules.{gives_value, value_node, is_port, has_modes, settable, node_names}
use Rattle.sheet.specs.Sections.{Row, Sheet, rows, nodes}
use Rattle.sheet.proofs.Lookups.{is_at}
use Rattle.sheet.proofs.Meaning.{keeps_the_rules}
use Rattle.sheet.proofs.Rested.{mark_rests, one_of_two, resting_is_reaching}
pub use Rattle.sheet.proofs.Rested.{rests_hit, rests_itself, rests_through}

-- one goes on from where one came
on_from : {ns : List Row} {n m o : ℕ} → Reaches ns n m → Reaches ns m o → Reaches ns n o
on_from itself q = q
on_from (through e a p) q = through e a (on_from p q)

module _ (s : Sheet) (a : accepted s ≡ true) where
  -- a node rests on all that a node rests on which it rests on
  pub rests_on_from : (t : Target) (r n : ℕ) → rests s (ThatNode n) r ≡ true → rests s t n ≡ true → rests s t r ≡ true
  rests_on_from t r n h g =
      let p = (resting_is_reaching s a (ThatNode n) r).0 h in
      let q = (resting_is_reaching s a t n).0 g in
      let there : Reaches (rows s nodes) r n = subst (λ (m : ℕ). Reaches (rows s nodes) r m) (eqb-true p.node n p.hit) p.reached in
      (resting_is_reaching s a t r).1 (record { node = q.node; value = q.value; reached = on_from there q.reached; stands = q.stands; hit = q.hit })

  -- where each node of b is one of s, what a node of b rests on it rests on in s
  module _ (b : Sheet) (was : (n : ℕ) (x : Node) → node_at b n ≡ Some x → node_at s n ≡ Some x) where
    reached_before : {n m : ℕ} → Reaches (rows b nodes) n m → Reaches (rows s nodes) n m
    reached_before itself = itself
    reached_before (through {n = n} {x = x} e a p) = through (was n x e) a (reached_before p)

    pub rests_before : (t : Target) (n : ℕ) → rests b t n ≡ true → rests s t n ≡ true
    rests_before t n h =
        let r = mark_rests (rows b nodes) t (n + 1) n (omega arith) h in
        (resting_is_reaching s a t n).1 (record { node = r.node; value = r.value; reached = reached_before r.reached; stands = was r.node r.value r.stands; hit = r.hit })

-- ---- value nodes rest on no mode

module _ (s : Sheet) (n o : ℕ) where
  two_values : (b c : ℕ) → ((ltb b n && value_node s b) && (ltb c n && value_node s c)) ≡ true → among o (b ∷ c ∷ []) ≡ true → value_node s o ≡ true
  two_values b c h e =
      let p = and_parts (ltb b n && value_node s b) (ltb c n && value_node s c) h in
      one_of_two o b c (λ m. value_node s m ≡ true) (and_parts (ltb b n) (value_node s b) p.0).1 (and_parts (ltb c n) (value_node s c) p.1).1 e

  -- the operands of a value node are value nodes
  operand_gives_value : (x : Node) → gives_value x ≡ true → node_names s n x ≡ true → among o (operands x) ≡ true → value_node s o ≡ true
  operand_gives_value (Constant v) g h e = absurd (false≢true e)
  operand_gives_value (Reading d) g h e = absurd (false≢true e)
  operand_gives_value (Sum b c) g h e = two_values b c h e
  operand_gives_value (Difference b c) g h e = two_values b c h e
  operand_gives_value True g h e = absurd (false≢true g)
  operand_gives_value (Equal b c) g h e = absurd (false≢true g)
  operand_gives_value (Less b c) g h e = absurd (false≢true g)
  operand_gives_value (Not b) g h e = absurd (false≢true g)
  operand_gives_value (And b c) g h e = absurd (false≢true g)
  operand_gives_value (InMode c m) g h e = absurd (false≢true g)

-- a value node names no mode
value_names_no_mode : (c m n : ℕ) (x : Node) → gives_value x ≡ true → hits (ThatMode c m) n x ≡ true → ⊥
value_names_no_mode c m n (Constant v) g h = false≢true h
value_names_no_mode c m n (Reading d) g h = false≢true h
value_names_no_mode c m n (Sum b d) g h = false≢true h
value_names_no_mode c m n (Difference b d) g h = false≢true h
value_names_no_mode c m n True g h = false≢true g
value_names_no_mode c m n (Equal b d) g h = false≢true g
value_names_no_mode c m n (Less b d) g h = false≢true g
value_names_no_mode c m n (Not b) g h = false≢true g
value_names_no_mode c m n (And b d) g h = false≢true g
value_names_no_mode c m n (InMode b d) g h = false≢true g

-- what names a mode names some mode
names_any_mode : (c m n : ℕ) (x : Node) → hits (ThatMode c m) n x ≡ true → hits AnyMode n x ≡ true
names_any_mode c m n (Constant v) h = h
names_any_mode c m n (Reading d) h = h
names_any_mode c m n (Sum b d) h = h
names_any_mode c m n (Difference b d) h = h
names_any_mode c m n True h = h
names_any_mode c m n (Equal b d) h = h
names_any_mode c m n (Less b d) h = h
names_any_mode c m n (Not b) h = h
names_any_mode c m n (And b d) h = h
names_any_mode c m n (InMode b d) h = refl

module _ (s : Sheet) (a : accepted s ≡ true) where
  value_reaches_values : {n m : ℕ} → Reaches (rows s nodes) n m → value_node s n ≡ true → value_node s m ≡ true
  value_reaches_values itself v = v
  value_reaches_values {n} (through {o = o} {x = x} e m r) v =
      value_reaches_values r (operand_gives_value s n o x (is_at (node_at s n) gives_value x e v) ((keeps_the_rules s a).nodes_right.passes n x e).names_right m)

  pub value_rests_on_no_mode : (n c m : ℕ) → value_node s n ≡ true → rests s (ThatMode c m) n ≡ true → ⊥
  value_rests_on_no_mode n c m v h =
      let r = (resting_is_reaching s a (ThatMode c m) n).0 h in
      value_names_no_mode c m r.node r.value (is_at (node_at s r.node) gives_value r.value r.stands (value_reaches_values r.reached v)) r.hit

  -- ---- nor do flows, settings and guards

  pub flow_rests_on_no_mode : (i c m : ℕ) (x : Flow) → flow_at s i ≡ Some x → rests s (ThatMode c m) x.node ≡ true → ⊥
  flow_rests_on_no_mode i c m x e h =
      let p = ((keeps_the_rules s a).flows_right.passes i x e).names_right in
      value_rests_on_no_mode x.node c m (and_parts (is (element_at s x.port) (λ p. is_port p && has_modes s p.component x.modes)) (value_node s x.node) p).1 h

  pub setting_rests_on_no_mode : (i c m : ℕ) (x : Setting) → setting_at s i ≡ Some x → rests s (ThatMode c m) x.node ≡ true → ⊥
  setting_rests_on_no_mode i c m x e h =
      let p = ((keeps_the_rules s a).settings_right.passes i x e).names_right in
      value_rests_on_no_mode x.node c m (and_parts (settable (transition_at s x.transition) (element_at s x.element)) (value_node s x.node) p).1 h

  pub guard_rests_on_no_mode : (t c m : ℕ) (x : Transition) → transition_at s t ≡ Some x → rests s (ThatMode c m) x.guard ≡ true → ⊥
  guard_rests_on_no_mode t c m x e h =
      let p = ((keeps_the_rules s a).transitions_right.passes t x e).rests_right in
      let r = (resting_is_reaching s a (ThatMode c m) x.guard).0 h in
      let any = (resting_is_reaching s a AnyMode x.guard).1 (record { node = r.node; value = r.value; reached = r.reached; stands = r.stands; hit = names_any_mode c m r.node r.value r.hit }) in
      true≢false (sym any ∙ not-true (rests s AnyMode x.guard) p)
