-- The things of a set of which the rules hold are closed, and the nodes that remain with them are in the set.
use Rattle.std.proofs.Common.{◌≡◌, ℕ, Bool, true, false, ◌&&◌, ◌||◌, ◌⊎◌, Some, sym, refl, ap, ◌∙◌, inl, inr, ⊎_elim}
use Rattle.std.proofs.lemmas.Bool.{and_parts, or_cases, or_left, or_right}
use Rattle.std.specs.Option.{option_map}
use Rattle.sheet.specs.declared.rows.Connection.{Connection}
use Rattle.sheet.specs.declared.rows.Element.{Element}
use Rattle.sheet.specs.declared.rows.Flow.{Flow}
use Rattle.sheet.specs.declared.rows.Setting.{Setting}
use Rattle.sheet.specs.declared.rows.Transition.{Transition}
use Rattle.sheet.specs.Accept.{accepted}
use Rattle.sheet.specs.Lookup.{element_at, flow_at, connection_at, transition_at, setting_at, is}
use Rattle.sheet.specs.Rules.{has_modes, is_port, value_node}
use Rattle.sheet.specs.Sections.{Sheet, flows, connections, transitions, settings}
use Rattle.sheet.proofs.Lookups.{is_cases}
use Rattle.sheet.proofs.Meaning.{keeps_the_rules}
use Rattle.cutting.specs.declared.kinds.Thing.TheVariants.{Element as KeptElement, Event as KeptEvent, Mode as KeptMode}
use Rattle.cutting.specs.CutSheet.{is_used}
use Rattle.cutting.specs.Kept.{Kept, Chosen, Closed, keeps_from, touches}
use Rattle.marking.specs.declared.kinds.Item.{Item}
use Rattle.marking.specs.declared.kinds.Item.TheVariants.{Thing as ThatThing, Node as ThatNode}
use Rattle.marking.specs.Rules.{event_items, flow_rule, connection_rule, transition_rule, setting_rule, setting_rule_at, flow_rule_at, Effect, named, listed, RulesHold}
use Rattle.marking.proofs.Resting.{rests_element, rests_mode, rests_node}
use Rattle.marking.proofs.Used.{Names, in_flow, in_guard, in_setting, in_question, used_from}

-- the things of a set of items
abbrev pub things_of : (Item → Bool) → Kept
things_of j x = j (ThatThing x)

module _ (s : Sheet) (a : accepted s ≡ true) (chosen : Chosen) (j : Item → Bool) (rules : RulesHold s chosen j) where
  abbrev k : Kept
  k = things_of j

  -- ---- the rule of each row

  by_flow : (f : ℕ) (x : Flow) (p : Element) → flow_at s f ≡ Some x → element_at s x.port ≡ Some p → k (KeptElement x.port) ≡ true → (i : Item) → Effect (flow_rule x p) i → j i ≡ true
  by_flow f x p e q h =
      rules.by_rows flows f (flow_rule x p) (ap (flow_rule_at s) e ∙ ap (option_map (flow_rule x)) q) (or_left (k (KeptElement x.port)) (false || false) h)

  by_connection : (i : ℕ) (x : Connection) → connection_at s i ≡ Some x → (k (KeptEvent x.out_event) || k (KeptEvent x.in_event)) ≡ true → (y : Item) → Effect (connection_rule x) y → j y ≡ true
  by_connection i x e h =
      let out = k (KeptEvent x.out_event) in
      let into = k (KeptEvent x.in_event) in
      rules.by_rows connections i (connection_rule x) (ap (option_map connection_rule) e)
      (⊎_elim (λ (u : out ≡ true). or_left out (into || false) u) (λ (u : into ≡ true). or_right out (into || false) (or_left into false u)) (or_cases out into h))

  by_transition : (t : ℕ) (y : Transition) → transition_at s t ≡ Some y → (touches k y ≡ true) ⊎ (is (event_items y.event) j ≡ true) → (x : Item) → Effect (transition_rule y) x → j x ≡ true
  by_transition t y e h =
      let from = k (KeptMode y.component y.from) in
      let to = k (KeptMode y.component y.to) in
      let event = is (event_items y.event) j in
      rules.by_rows transitions t (transition_rule y) (ap (option_map transition_rule) e)
      (⊎_elim
      (λ (u : touches k y ≡ true). ⊎_elim (λ (v : from ≡ true). or_left from (to || (event || false)) v) (λ (v : to ≡ true). or_right from (to || (event || false)) (or_left to (event || false) v)) (or_cases from to u))
      (λ (u : event ≡ true). or_right from (to || (event || false)) (or_right to (event || false) (or_left event false u)))
      h)

  by_setting : (i : ℕ) (x : Setting) (y : Transition) → setting_at s i ≡ Some x → transition_at s x.transition ≡ Some y → k (KeptElement x.element) ≡ true → (z : Item) → Effect (setting_rule x y) z → j z ≡ true
  by_setting i x y e q h =
      rules.by_rows settings i (setting_rule x y) (ap (setting_rule_at s) e ∙ ap (option_map (setting_rule x)) q) (or_left (k (KeptElement x.element)) (false || false) h)

  -- the port of a flow is there
  port_there : (f : ℕ) (x : Flow) → flow_at s f ≡ Some x → (p : Element) × (element_at s x.port ≡ Some p)
  port_there f x e =
      let right = ((keeps_the_rules s a).flows_right.passes f x e).names_right in
      let test : Element → Bool = λ p. is_port p && has_modes s p.component x.modes in
      let q = is_cases (element_at s x.port) test (and_parts (is (element_at s x.port) test) (value_node s x.node) right).0 in
      (q.0, q.1)

  -- a node that a remaining row names is in the set
  names_in : (r : ℕ) → Names k chosen s r → j (ThatNode r) ≡ true
  names_in r (in_flow i x e h same) = let p = port_there i x e in ap (λ n. j (ThatNode n)) (sym same) ∙ by_flow i x p.0 e p.1 h (ThatNode x.node) (named 0 refl)
  names_in r (in_guard t y e h same) = ap (λ n. j (ThatNode n)) (sym same) ∙ by_transition t y e (inl (or_left (keeps_from k y) (k (KeptMode y.component y.to)) h)) (ThatNode y.guard) (named 2 refl)
  names_in r (in_setting i x y e q h d same) = ap (λ n. j (ThatNode n)) (sym same) ∙ by_setting i x y e q d (ThatNode x.node) (named 1 refl)
  names_in r (in_question q x e h same) = ap (λ n. j (ThatNode n)) (sym same) ∙ rules.by_questions q x h e

  -- The nodes that remain with the things of the set are in it.
  pub remaining_in : (n : ℕ) → is_used k chosen s n ≡ true → j (ThatNode n) ≡ true
  remaining_in n h = let u = used_from k chosen s n h in rests_node s a chosen j rules u.0 n (names_in u.0 u.1) u.2

  -- The things of the set are closed.
  pub things_closed : ((c : ℕ) → k (KeptMode c 0) ≡ false) → Closed s chosen k
  things_closed none =
      record {
        no_mode_0 = none;
        question_elements = λ q e x h l r. rests_element s a chosen j rules x.node e (rules.by_questions q x h l) r;
        question_modes = λ q c m x h l r. rests_mode s a chosen j rules x.node c m (rules.by_questions q x h l) r;
        setting_from = λ i x y e q h. by_setting i x y e q h (ThatThing (KeptMode y.component y.from)) (named 0 refl);
        event_from = λ t v y e q h. by_transition t y e (inr (ap (λ o. is (event_items o) j) q ∙ h)) (ThatThing (KeptMode y.component y.from)) (named 0 refl);
        touched_from = λ t y e h. by_transition t y e (inl h) (ThatThing (KeptMode y.component y.from)) (named 0 refl);
        touched_event = λ t v y e h q. by_transition t y e (inl h) (ThatThing (KeptEvent v)) (named 1 (ap event_items q));
        touched_guard = λ t e y l h r. rests_element s a chosen j rules y.guard e (by_transition t y l (inl h) (ThatNode y.guard) (named 2 refl)) r;
        touched_setting = λ i e x y l q h d r. rests_element s a chosen j rules x.node e (by_setting i x y l q d (ThatNode x.node) (named 1 refl)) r;
        flow_elements = λ f e x l h r. let p = port_there f x l in rests_element s a chosen j rules x.node e (by_flow f x p.0 l p.1 h (ThatNode x.node) (named 0 refl)) r;
        flow_modes = λ f m x p l q h i. by_flow f x p l q h (ThatThing (KeptMode p.component m)) (listed refl i);
        connection_in = λ i x e h. by_connection i x e (or_left (k (KeptEvent x.out_event)) (k (KeptEvent x.in_event)) h) (ThatThing (KeptEvent x.in_event)) (named 1 refl);
        connection_out = λ i x e h. by_connection i x e (or_right (k (KeptEvent x.out_event)) (k (KeptEvent x.in_event)) h) (ThatThing (KeptEvent x.out_event)) (named 0 refl);
        connection_modes = λ i m x e h l. by_connection i x e h (ThatThing (KeptMode x.owner m)) (listed refl l);
      }
