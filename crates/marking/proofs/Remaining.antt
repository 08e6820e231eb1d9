-- Of a closed set of things, with the nodes that remain, the rules hold.
use Rattle.std.proofs.Common.{◌≡◌, ℕ, zero, suc, Bool, true, false, not, ◌&&◌, ◌||◌, eqb, ltb, ◌⊎◌, [], ◌∷◌, Some, None, Option, sym, refl, ap, ◌∙◌, subst, inl, inr, ⊎_elim}
use Rattle.std.proofs.lemmas.Bool.{false≢true, and_parts, or_cases, or_left, or_right, eqb-true}
use Rattle.sheet.specs.declared.rows.Connection.{Connection}
use Rattle.sheet.specs.declared.rows.Element.{Element}
use Rattle.sheet.specs.declared.rows.Flow.{Flow}
use Rattle.sheet.specs.declared.rows.Node.{Node}
use Rattle.sheet.specs.declared.rows.Node.TheVariants.{Constant, Element as Reading, Sum, Difference, True, Equal, Less, Not, And, InMode}
use Rattle.sheet.specs.declared.rows.Setting.{Setting}
use Rattle.sheet.specs.declared.rows.Target.TheVariants.{Node as TheNode, Element as TheElement, Mode as TheMode}
use Rattle.sheet.specs.declared.rows.Transition.{Transition}
use Rattle.sheet.specs.Accept.{accepted}
use Rattle.sheet.specs.Lookup.{element_at, node_at, flow_at, connection_at, transition_at, setting_at, is}
use Rattle.sheet.specs.Resting.{operands, among, rests}
use Rattle.sheet.specs.Rules.{gives_value, value_node, condition_node, has_mode, has_modes, event_of, is_port, settable, node_names}
use Rattle.sheet.specs.Sections.{Sheet}
use Rattle.sheet.proofs.Firsts.{no_pass}
use Rattle.sheet.proofs.Lookups.{is_cases}
use Rattle.sheet.proofs.Meaning.{keeps_the_rules}
use Rattle.cutting.specs.declared.kinds.Thing.TheVariants.{Element as KeptElement, Event as KeptEvent, Mode as KeptMode}
use Rattle.cutting.specs.CutSheet.{is_used}
use Rattle.cutting.specs.Kept.{Kept, Chosen, Closed, keeps_from}
use Rattle.cutting.proofs.Restings.{rests_hit, rests_itself, rests_through, flow_rests_on_no_mode, setting_rests_on_no_mode, guard_rests_on_no_mode}
use Rattle.marking.specs.declared.kinds.Item.{Item}
use Rattle.marking.specs.declared.kinds.Item.TheVariants.{Thing as ThatThing, Node as ThatNode}
use Rattle.marking.specs.declared.kinds.Rule.{Rule}
use Rattle.marking.specs.Rules.{event_items, node_rule, flow_rule, connection_rule, transition_rule, setting_rule, Effect, named, listed, Holds, RulesHold}
use Rattle.marking.proofs.Origins.{Origin, of_node, of_flow, of_connection, of_transition, of_setting, origin}
use Rattle.marking.proofs.Passes.{some_same}
use Rattle.marking.proofs.Placing.{some_listed}
use Rattle.marking.proofs.Resting.{Named, operand, element, mode, effect_named, rests_on_from}
use Rattle.marking.proofs.Used.{Names, in_flow, in_guard, in_setting, in_question, used_from, names_used}

-- the things of a set, and the nodes that remain with them
abbrev pub with_nodes : Kept → Chosen → Sheet → Item → Bool
with_nodes k chosen s (ThatThing x) = k x
with_nodes k chosen s (ThatNode n) = is_used k chosen s n

-- ---- the operands of an accepted sheet's nodes are there

module _ (s : Sheet) (n o : ℕ) where
  one_there : (f : Node → Bool) (b : ℕ) → (ltb b n && is (node_at s b) f) ≡ true → eqb o b ≡ true → (y : Node) × (node_at s o ≡ Some y)
  one_there f b h e =
      let q = is_cases (node_at s b) f (and_parts (ltb b n) (is (node_at s b) f) h).1 in
      (q.0, ap (node_at s) (eqb-true o b e) ∙ q.1)

  two_there : (f : Node → Bool) (b c : ℕ) → ((ltb b n && is (node_at s b) f) && (ltb c n && is (node_at s c) f)) ≡ true → among o (b ∷ c ∷ []) ≡ true → (y : Node) × (node_at s o ≡ Some y)
  two_there f b c h e =
      let p = and_parts (ltb b n && is (node_at s b) f) (ltb c n && is (node_at s c) f) h in
      ⊎_elim
      (λ (q : eqb o b ≡ true). one_there f b p.0 q)
      (λ (q : (eqb o c || false) ≡ true). ⊎_elim (λ (u : eqb o c ≡ true). one_there f c p.1 u) (λ (u : false ≡ true). absurd (false≢true u)) (or_cases (eqb o c) false q))
      (or_cases (eqb o b) (eqb o c || false) e)

  operand_there : (x : Node) → node_names s n x ≡ true → among o (operands x) ≡ true → (y : Node) × (node_at s o ≡ Some y)
  operand_there (Constant v) h e = absurd (false≢true e)
  operand_there (Reading d) h e = absurd (false≢true e)
  operand_there (Sum b c) h e = two_there gives_value b c h e
  operand_there (Difference b c) h e = two_there gives_value b c h e
  operand_there True h e = absurd (false≢true e)
  operand_there (Equal b c) h e = two_there gives_value b c h e
  operand_there (Less b c) h e = two_there gives_value b c h e
  operand_there (Not b) h e = ⊎_elim (λ (u : eqb o b ≡ true). one_there (λ x. not (gives_value x)) b h u) (λ (u : false ≡ true). absurd (false≢true u)) (or_cases (eqb o b) false e)
  operand_there (And b c) h e = two_there (λ x. not (gives_value x)) b c h e
  operand_there (InMode c m) h e = absurd (false≢true e)

no_item : {A : Type 0} (x : Item) → ◌≡◌ {A = Option Item} None (Some x) → A
no_item x e = no_pass x (sym e)

module _ (s : Sheet) (a : accepted s ≡ true) (chosen : Chosen) (k : Kept) (closed : Closed s chosen k) where
  abbrev j : Item → Bool
  j = with_nodes k chosen s

  -- ---- what a named node rests on

  named_element : (r e : ℕ) → Names k chosen s r → rests s (TheElement e) r ≡ true → k (KeptElement e) ≡ true
  named_element r e (in_flow i x l h same) g = closed.flow_elements i e x l h (ap (rests s (TheElement e)) same ∙ g)
  named_element r e (in_guard t y l h same) g = closed.touched_guard t e y l (or_left (keeps_from k y) (k (KeptMode y.component y.to)) h) (ap (rests s (TheElement e)) same ∙ g)
  named_element r e (in_setting i x y l q h d same) g = closed.touched_setting i e x y l q (or_left (keeps_from k y) (k (KeptMode y.component y.to)) h) d (ap (rests s (TheElement e)) same ∙ g)
  named_element r e (in_question q x l h same) g = closed.question_elements q e x h l (ap (rests s (TheElement e)) same ∙ g)

  named_mode : (r c m : ℕ) → Names k chosen s r → rests s (TheMode c m) r ≡ true → k (KeptMode c m) ≡ true
  named_mode r c m (in_flow i x l h same) g = absurd (flow_rests_on_no_mode s a i c m x l (ap (rests s (TheMode c m)) same ∙ g))
  named_mode r c m (in_guard t y l h same) g = absurd (guard_rests_on_no_mode s a t c m y l (ap (rests s (TheMode c m)) same ∙ g))
  named_mode r c m (in_setting i x y l q h d same) g = absurd (setting_rests_on_no_mode s a i c m x l (ap (rests s (TheMode c m)) same ∙ g))
  named_mode r c m (in_question q x l h same) g = closed.question_modes q c m x h l (ap (rests s (TheMode c m)) same ∙ g)

  -- a named node that is there remains
  name_remains : (r : ℕ) (f : Node → Bool) → is (node_at s r) f ≡ true → Names k chosen s r → is_used k chosen s r ≡ true
  name_remains r f h names =
      let q = is_cases (node_at s r) f h in
      names_used k chosen s r r names (rests_itself s a r q.0 q.1)

  -- ---- each rule

  node_named : (n : ℕ) (y : Node) → node_at s n ≡ Some y → is_used k chosen s n ≡ true → (x : Item) → Named n y x → j x ≡ true
  node_named n y e h x (operand o i) =
      let u = used_from k chosen s n h in
      let there = operand_there s n o y ((keeps_the_rules s a).nodes_right.passes n y e).names_right i in
      names_used k chosen s o u.0 u.1 (rests_on_from s a (TheNode o) u.0 n u.2 (rests_through s a (TheNode o) n o y e i (rests_itself s a o there.0 there.1)))
  node_named n y e h x (element d i) =
      let u = used_from k chosen s n h in
      named_element u.0 d u.1 (rests_on_from s a (TheElement d) u.0 n u.2 (rests_hit s a (TheElement d) n y e i))
  node_named n y e h x (mode c m i) =
      let u = used_from k chosen s n h in
      named_mode u.0 c m u.1 (rests_on_from s a (TheMode c m) u.0 n u.2 (rests_hit s a (TheMode c m) n y e i))

  -- a rule with one cause
  only_cause : (b : Bool) → (b || (false || false)) ≡ true → b ≡ true
  only_cause true h = refl
  only_cause false h = h

  node_holds : (n : ℕ) (y : Node) → node_at s n ≡ Some y → Holds (node_rule n y) j j
  node_holds n y e h x f = node_named n y e (only_cause (is_used k chosen s n) h) x (effect_named n y x f)

  flow_effects : (i : ℕ) (x : Flow) (p : Element) → flow_at s i ≡ Some x → element_at s x.port ≡ Some p → k (KeptElement x.port) ≡ true → (z : Item) → Effect (flow_rule x p) z → j z ≡ true
  flow_effects i x p e q h z (named zero u) =
      let right = (and_parts (is (element_at s x.port) (λ p. is_port p && has_modes s p.component x.modes)) (value_node s x.node) ((keeps_the_rules s a).flows_right.passes i x e).names_right).1 in
      ap j (sym (some_same (ThatNode x.node) z u)) ∙ name_remains x.node gives_value right (in_flow i x e h refl)
  flow_effects i x p e q h z (named (suc zero) u) = no_item z u
  flow_effects i x p e q h z (named (suc (suc zero)) u) = no_item z u
  flow_effects i x p e q h z (named (suc (suc (suc n))) u) = no_item z u
  flow_effects i x p e q h z (listed {o = o} {m = m} d u) = some_listed (λ z. j z ≡ true) (record { component = p.component; modes = x.modes }) (λ m u. closed.flow_modes i m x p e q h u) o m d u

  flow_holds : (i : ℕ) (x : Flow) (p : Element) → flow_at s i ≡ Some x → element_at s x.port ≡ Some p → Holds (flow_rule x p) j j
  flow_holds i x p e q h = flow_effects i x p e q (only_cause (k (KeptElement x.port)) h)

  connection_effects : (i : ℕ) (x : Connection) → connection_at s i ≡ Some x → (k (KeptEvent x.out_event) ≡ true) ⊎ (k (KeptEvent x.in_event) ≡ true) → (z : Item) → Effect (connection_rule x) z → j z ≡ true
  connection_effects i x e h z (named zero u) =
      ap j (sym (some_same (ThatThing (KeptEvent x.out_event)) z u)) ∙ ⊎_elim (λ (g : k (KeptEvent x.out_event) ≡ true). g) (λ (g : k (KeptEvent x.in_event) ≡ true). closed.connection_out i x e g) h
  connection_effects i x e h z (named (suc zero) u) =
      ap j (sym (some_same (ThatThing (KeptEvent x.in_event)) z u)) ∙ ⊎_elim (λ (g : k (KeptEvent x.out_event) ≡ true). closed.connection_in i x e g) (λ (g : k (KeptEvent x.in_event) ≡ true). g) h
  connection_effects i x e h z (named (suc (suc zero)) u) = no_item z u
  connection_effects i x e h z (named (suc (suc (suc n))) u) = no_item z u
  connection_effects i x e h z (listed {o = o} {m = m} d u) =
      let out = k (KeptEvent x.out_event) in
      let into = k (KeptEvent x.in_event) in
      let either = ⊎_elim (λ (g : out ≡ true). or_left out into g) (λ (g : into ≡ true). or_right out into g) h in
      some_listed (λ z. j z ≡ true) (record { component = x.owner; modes = x.modes }) (λ m u. closed.connection_modes i m x e either u) o m d u

  -- a rule with two causes
  two_causes : (b c : Bool) → (b || (c || false)) ≡ true → (b ≡ true) ⊎ (c ≡ true)
  two_causes true c h = inl refl
  two_causes false true h = inr refl
  two_causes false false h = absurd (false≢true h)

  connection_holds : (i : ℕ) (x : Connection) → connection_at s i ≡ Some x → Holds (connection_rule x) j j
  connection_holds i x e h = connection_effects i x e (two_causes (k (KeptEvent x.out_event)) (k (KeptEvent x.in_event)) h)

  -- the event of a transition, if it has one
  event_found : (o : Option ℕ) (z : Item) → event_items o ≡ Some z → (v : ℕ) × (o ≡ Some v) × (ThatThing (KeptEvent v) ≡ z)
  event_found None z e = no_item z e
  event_found (Some v) z e = (v, refl, some_same (ThatThing (KeptEvent v)) z e)

  event_kept : (o : Option ℕ) → is (event_items o) j ≡ true → (v : ℕ) × (o ≡ Some v) × (k (KeptEvent v) ≡ true)
  event_kept None h = absurd (false≢true h)
  event_kept (Some v) h = (v, refl, h)

  transition_effects : (t : ℕ) (y : Transition) → transition_at s t ≡ Some y → keeps_from k y ≡ true → (z : Item) → Effect (transition_rule y) z → j z ≡ true
  transition_effects t y e h z (named zero u) = ap j (sym (some_same (ThatThing (KeptMode y.component y.from)) z u)) ∙ h
  transition_effects t y e h z (named (suc zero) u) =
      let p = event_found y.event z u in
      ap j (sym p.2) ∙ closed.touched_event t p.0 y e (or_left (keeps_from k y) (k (KeptMode y.component y.to)) h) p.1
  transition_effects t y e h z (named (suc (suc zero)) u) =
      let right = ((keeps_the_rules s a).transitions_right.passes t y e).names_right in
      let p = and_parts (has_mode s y.component y.from) _ right in
      let q = and_parts (has_mode s y.component y.to) _ p.1 in
      let g = (and_parts (event_of s y.component y.event) (condition_node s y.guard) q.1).1 in
      ap j (sym (some_same (ThatNode y.guard) z u)) ∙ name_remains y.guard (λ x. not (gives_value x)) g (in_guard t y e h refl)
  transition_effects t y e h z (named (suc (suc (suc n))) u) = no_item z u
  transition_effects t y e h z (listed {o = o} d u) = no_pass o (sym d)

  transition_holds : (t : ℕ) (y : Transition) → transition_at s t ≡ Some y → Holds (transition_rule y) j j
  transition_holds t y e h =
      let from = k (KeptMode y.component y.from) in
      let to = k (KeptMode y.component y.to) in
      let event = is (event_items y.event) j in
      transition_effects t y e
      (⊎_elim
      (λ (u : from ≡ true). u)
      (λ (u : (to || (event || false)) ≡ true).
      ⊎_elim
      (λ (v : to ≡ true). closed.touched_from t y e (or_right from to v))
      (λ (v : (event || false) ≡ true). let p = event_kept y.event (only_cause event v) in closed.event_from t p.0 y e p.1 p.2)
      (or_cases to (event || false) u))
      (or_cases from (to || (event || false)) h))

  setting_effects : (i : ℕ) (x : Setting) (y : Transition) → setting_at s i ≡ Some x → transition_at s x.transition ≡ Some y → k (KeptElement x.element) ≡ true → (z : Item) → Effect (setting_rule x y) z → j z ≡ true
  setting_effects i x y e q h z (named zero u) = ap j (sym (some_same (ThatThing (KeptMode y.component y.from)) z u)) ∙ closed.setting_from i x y e q h
  setting_effects i x y e q h z (named (suc zero) u) =
      let right = (and_parts (settable (transition_at s x.transition) (element_at s x.element)) (value_node s x.node) ((keeps_the_rules s a).settings_right.passes i x e).names_right).1 in
      ap j (sym (some_same (ThatNode x.node) z u)) ∙ name_remains x.node gives_value right (in_setting i x y e q (closed.setting_from i x y e q h) h refl)
  setting_effects i x y e q h z (named (suc (suc zero)) u) = no_item z u
  setting_effects i x y e q h z (named (suc (suc (suc n))) u) = no_item z u
  setting_effects i x y e q h z (listed {o = o} d u) = no_pass o (sym d)

  setting_holds : (i : ℕ) (x : Setting) (y : Transition) → setting_at s i ≡ Some x → transition_at s x.transition ≡ Some y → Holds (setting_rule x y) j j
  setting_holds i x y e q h = setting_effects i x y e q (only_cause (k (KeptElement x.element)) h)

  row_holds : (n i : ℕ) (r : Rule) → Origin s n i r → Holds r j j
  row_holds n i r (of_node y l e q) = subst (λ (r : Rule). Holds r j j) q (node_holds i y e)
  row_holds n i r (of_flow x p l e h q) = subst (λ (r : Rule). Holds r j j) q (flow_holds i x p e h)
  row_holds n i r (of_connection x l e q) = subst (λ (r : Rule). Holds r j j) q (connection_holds i x e)
  row_holds n i r (of_transition y l e q) = subst (λ (r : Rule). Holds r j j) q (transition_holds i y e)
  row_holds n i r (of_setting x y l e h q) = subst (λ (r : Rule). Holds r j j) q (setting_holds i x y e h)

  -- The rules hold of a closed set with the nodes that remain.
  pub closed_holds : RulesHold s chosen (with_nodes k chosen s)
  closed_holds =
      record {
        by_rows = λ n i r e. row_holds n i r (origin s n i r e);
        by_questions = λ q x h e. name_remains x.node (λ y. not (gives_value y)) ((keeps_the_rules s a).questions_right.passes q x e).names_right (in_question q x e h refl);
      }
