-- The effects of the rules of an accepted sheet have places.
use Rattle.std.proofs.Common.{◌≡◌, ℕ, zero, suc, ◌+◌, ◌%◌, ◌^◌, ◌<◌, ◌≤◌, Bool, true, false, cond, not, ◌&&◌, eqb, ltb, leb, List, [], ◌∷◌, get_or, is_some, Some, None, Option, sym, refl, subst, ⊎_elim, div-one, arith, pow_mono, Err}
use native.Mathlib.Nat.{div-eq_of_lt}
use Rattle.std.proofs.lemmas.Bool.{false≢true, both_ways, and_parts, ltb-true, leb-true, eqb-true, cases_lt}
use Rattle.sheet.specs.Entry.{Entry, malformed}
use Rattle.sheet.specs.declared.rows.Component.{Component}
use Rattle.sheet.specs.declared.rows.Connection.{Connection}
use Rattle.sheet.specs.declared.rows.Element.{Element}
use Rattle.sheet.specs.declared.rows.Event.{Event}
use Rattle.sheet.specs.declared.rows.Flow.{Flow}
use Rattle.sheet.specs.declared.rows.Node.{Node}
use Rattle.sheet.specs.declared.rows.Node.TheVariants.{Constant, Element as Reading, Sum, Difference, True, Equal, Less, Not, And, InMode}
use Rattle.sheet.specs.declared.rows.Question.{Question}
use Rattle.sheet.specs.declared.rows.Setting.{Setting}
use Rattle.sheet.specs.declared.rows.Transition.{Transition}
use Rattle.sheet.specs.Accept.{accepted}
use Rattle.sheet.specs.Lookup.{held, there, component_at, element_at, event_at, node_at, flow_at, connection_at, transition_at, setting_at, question_at, is}
use Rattle.sheet.specs.Rules.{has_mode, has_modes, is_port, goes_out, leads, event_of, value_node, condition_node, gives_value, settable, node_names}
use Rattle.sheet.specs.Sections.{Row, Sheet, rows, components, elements, events, nodes, flows, connections, transitions}
use Rattle.sheet.specs.Typed.{at, number, mode_set, zeros, holds_if, blank_or, listing, event_named, component_entry, element_entry, event_entry, node_by_kind, node_entry, flow_entry, connection_entry, transition_entry}
use Rattle.sheet.proofs.Firsts.{no_pass}
use Rattle.sheet.proofs.Lookups.{is_cases, is_at}
use Rattle.sheet.proofs.Meaning.{there_inside, keeps_the_rules}
use Rattle.sheet.proofs.Shapes.{sized}
use Rattle.running.specs.Values.{lists}
use Rattle.cutting.specs.declared.kinds.Thing.TheVariants.{Element as KeptElement, Event as KeptEvent, Mode as KeptMode}
use Rattle.cutting.specs.Agreement.{Every}
use Rattle.marking.specs.declared.kinds.Item.{Item}
use Rattle.marking.specs.declared.kinds.Item.TheVariants.{Thing as ThatThing, Node as ThatNode}
use Rattle.marking.specs.declared.kinds.OwnedModes.{OwnedModes}
use Rattle.marking.specs.declared.kinds.Rule.{Rule}
use Rattle.marking.specs.Items.{Placed}
use Rattle.marking.specs.Rules.{node_rule, flow_rule, connection_rule, transition_rule, setting_rule, event_items, rule_at, Effect, named, listed}
use Rattle.marking.proofs.Origins.{Origin, of_node, of_flow, of_connection, of_transition, of_setting, origin}
use Rattle.marking.proofs.Tables.{element_placed, event_placed, mode_placed, node_placed}

-- ---- what a row holds, by its bytes

-- whatever the entry holds has the property
abbrev HeldAll : {X : Type 0} → (X → Type 0) → Entry X → Type 0
HeldAll P e = (x : _) → held e ≡ Some x → P x

module _ {X : Type 0} (P : X → Type 0) where
  all_if : (b : Bool) (y : X) → (b ≡ true → P y) → HeldAll P (holds_if b y)
  all_if true y h x e = let same : y ≡ x = cc in subst P same (h refl)
  all_if false y h x e = no_pass x (sym e)

  all_either : (b : Bool) (u v : Entry X) → HeldAll P u → HeldAll P v → HeldAll P (cond b u v)
  all_either true u v p q = p
  all_either false u v p q = q

  all_unless : (b : Bool) (u : Entry X) → HeldAll P u → HeldAll P (blank_or b u)
  all_unless true u p x e = no_pass x (sym e)
  all_unless false u p x e = p x e

  all_faulty : HeldAll P (Err malformed)
  all_faulty x e = no_pass x (sym e)

-- a component has at most 15 modes
few_modes : (r : Row) → HeldAll (λ x. x.modes ≤ 15) (component_entry r)
few_modes r =
    all_if (λ x. x.modes ≤ 15) (leb 1 (at r 0) && (leb (at r 0) 15 && leb (at r 1) (at r 0))) (record { modes = at r 0; start = at r 1 })
    (λ h. leb-true (at r 0) 15 (and_parts (leb (at r 0) 15) (leb (at r 1) (at r 0)) (and_parts (leb 1 (at r 0)) (leb (at r 0) 15 && leb (at r 1) (at r 0)) h).1).0)

-- the from mode of a transition is not 0
from_some : (r : Row) → HeldAll (λ y. 1 ≤ y.from) (transition_entry r)
from_some r =
    all_unless (λ y. 1 ≤ y.from) (zeros 5 r) (holds_if (leb 1 (at r 1)) (record { component = at r 0; from = at r 1; to = at r 2; event = event_named (at r 3); guard = at r 4 }))
    (all_if (λ y. 1 ≤ y.from) (leb 1 (at r 1)) (record { component = at r 0; from = at r 1; to = at r 2; event = event_named (at r 3); guard = at r 4 }) (λ h. leb-true 1 (at r 1) h))

-- a mode set does not list mode 0
even_set : (set : ℕ) → listing set ≡ true → set % 2 ≡ 0
even_set set h = eqb-true (set % 2) 0 (and_parts (not (eqb set 0)) (eqb (set % 2) 0) h).1

flow_even : (r : Row) → HeldAll (λ x. x.modes % 2 ≡ 0) (flow_entry r)
flow_even r =
    let m = mode_set (at r 2) (at r 3) in
    all_unless (λ x. x.modes % 2 ≡ 0) (zeros 4 r) (holds_if (listing m) (record { port = at r 0; node = at r 1; modes = m }))
    (all_if (λ x. x.modes % 2 ≡ 0) (listing m) (record { port = at r 0; node = at r 1; modes = m }) (even_set m))

connection_even : (r : Row) → HeldAll (λ x. x.modes % 2 ≡ 0) (connection_entry r)
connection_even r =
    let m = mode_set (at r 3) (at r 4) in
    all_unless (λ x. x.modes % 2 ≡ 0) (zeros 5 r) (holds_if (listing m) (record { out_event = at r 0; in_event = at r 1; owner = at r 2; modes = m }))
    (all_if (λ x. x.modes % 2 ≡ 0) (listing m) (record { out_event = at r 0; in_event = at r 1; owner = at r 2; modes = m }) (even_set m))

-- a node does not name mode 0
abbrev NamesMode : Node → Type 0
NamesMode (Constant v) = Unit {0}
NamesMode (Reading e) = Unit {0}
NamesMode (Sum a b) = Unit {0}
NamesMode (Difference a b) = Unit {0}
NamesMode True = Unit {0}
NamesMode (Equal a b) = Unit {0}
NamesMode (Less a b) = Unit {0}
NamesMode (Not a) = Unit {0}
NamesMode (And a b) = Unit {0}
NamesMode (InMode c m) = 1 ≤ m

node_names_mode : (r : Row) → HeldAll NamesMode (node_entry r)
node_names_mode r =
    let k = at r 0 in
    let a = at r 1 in
    let b = at r 2 in
    let c = at r 3 in
    let either = all_either NamesMode in
    let only = all_if NamesMode in
    all_unless NamesMode (zeros 4 r) (node_by_kind k a b c)
    (either (eqb k 1) _ _ (only (eqb c 0) (Constant (number a b)) (λ h. tt))
    (either (eqb k 2) _ _ (only (eqb b 0 && eqb c 0) (Reading a) (λ h. tt))
    (either (eqb k 3) _ _ (only (eqb c 0) (Sum a b) (λ h. tt))
    (either (eqb k 4) _ _ (only (eqb c 0) (Difference a b) (λ h. tt))
    (either (eqb k 16) _ _ (only (eqb a 0 && (eqb b 0 && eqb c 0)) True (λ h. tt))
    (either (eqb k 17) _ _ (only (eqb c 0) (Equal a b) (λ h. tt))
    (either (eqb k 18) _ _ (only (eqb c 0) (Less a b) (λ h. tt))
    (either (eqb k 19) _ _ (only (eqb b 0 && eqb c 0) (Not a) (λ h. tt))
    (either (eqb k 20) _ _ (only (eqb c 0) (And a b) (λ h. tt))
    (either (eqb k 21) _ _ (only (leb 1 b && eqb c 0) (InMode a b) (λ h. leb-true 1 b (and_parts (leb 1 b) (eqb c 0) h).0))
    (all_faulty NamesMode)))))))))))

-- ---- what is there has a place

-- a set below 2 ^ n lists no mode from n on
listed_below : (set n m : ℕ) → set < 2 ^ n → lists set m ≡ true → m < n
listed_below set n m small h =
    ⊎_elim
    (λ (l : m < n). l)
    (λ (l : n ≤ m).
    let below : set < 2 ^ m = omega (arith, pow_mono l) in
    let none : lists set m ≡ false = rw (div-eq_of_lt below) in
    absurd (both_ways (lists set m) none h))
    (cases_lt m n)

listed_some : (set m : ℕ) → set % 2 ≡ 0 → lists set m ≡ true → 1 ≤ m
listed_some set zero even h =
    let none : lists set 0 ≡ false = rw (div-one set, even) in
    absurd (both_ways (lists set 0) none h)
listed_some set (suc m) even h = omega arith

module _ (s : Sheet) (a : accepted s ≡ true) where
  node_there : (n : ℕ) (p : Node → Bool) → is (node_at s n) p ≡ true → Placed (ThatNode n)
  node_there n p h =
      let q = is_cases (node_at s n) p h in
      let i = (there_inside node_entry (rows s nodes) n q.0 q.1).0 in
      node_placed n (omega (arith, (sized s nodes a (omega arith)).within))

  element_there : (e : ℕ) (x : Element) → element_at s e ≡ Some x → Placed (ThatThing (KeptElement e))
  element_there e x h =
      let i = (there_inside element_entry (rows s elements) e x h).0 in
      element_placed e (omega (arith, (sized s elements a (omega arith)).within))

  event_there : (v : ℕ) (x : Event) → event_at s v ≡ Some x → Placed (ThatThing (KeptEvent v))
  event_there v x h =
      let i = (there_inside event_entry (rows s events) v x h).0 in
      event_placed v (omega (arith, (sized s events a (omega arith)).within))

  mode_there : (c m : ℕ) (x : Component) → component_at s c ≡ Some x → 1 ≤ m → m ≤ x.modes → Placed (ThatThing (KeptMode c m))
  mode_there c m x h low high =
      let i = there_inside component_entry (rows s components) c x h in
      let few = few_modes (get_or (rows s components) c []) x i.1 in
      mode_placed c m (omega (arith, i.0, (sized s components a (omega arith)).within)) low (omega arith)

  has_mode_there : (c m : ℕ) → has_mode s c m ≡ true → 1 ≤ m → Placed (ThatThing (KeptMode c m))
  has_mode_there c m h low =
      let q = is_cases (component_at s c) (λ x. leb m x.modes) h in
      mode_there c m q.0 q.1 low (leb-true m q.0.modes q.2)

  listed_there : (c set m : ℕ) → has_modes s c set ≡ true → set % 2 ≡ 0 → lists set m ≡ true → Placed (ThatThing (KeptMode c m))
  listed_there c set m h even l =
      let q = is_cases (component_at s c) (λ x. ltb set (2 ^ (x.modes + 1))) h in
      let below = listed_below set (q.0.modes + 1) m (ltb-true set (2 ^ (q.0.modes + 1)) q.2) l in
      mode_there c m q.0 q.1 (listed_some set m even l) (omega arith)

-- ---- the effects of each rule

abbrev PlacedIf : Option Item → Type 0
PlacedIf None = Unit {0}
PlacedIf (Some x) = Placed x

placed_some : (o : Option Item) → PlacedIf o → (x : Item) → o ≡ Some x → Placed x
placed_some None p x e = no_pass x (sym e)
placed_some (Some y) p x e = let same : y ≡ x = cc in subst Placed same p

-- by place
pub each_at : (P : Option Item → Type 0) → P None → (os : List (Option Item)) → Every P os → (i : ℕ) → P (get_or os i None)
each_at P none [] p i = none
each_at P none (o ∷ os) p zero = p.0
each_at P none (o ∷ os) p (suc i) = each_at P none os p.1 i

same_modes : (u o : OwnedModes) → Some u ≡ Some o → u ≡ o
same_modes u o q = cc

-- The effects that a rule names have places.
record EffectsPlaced (r : Rule) : Type 0 where
  items : Every PlacedIf r.effects
  modes : (o : OwnedModes) (m : ℕ) → r.modes ≡ Some o → lists o.modes m ≡ true → Placed (ThatThing (KeptMode o.component m))

effects_placed : (r : Rule) → EffectsPlaced r → (x : Item) → Effect r x → Placed x
effects_placed r p x (named i e) = placed_some (get_or r.effects i None) (each_at PlacedIf tt r.effects p.items i) x e
effects_placed r p x (listed {o = o} {m = m} q e) = p.modes o m q e

none_listed : (o : OwnedModes) (m : ℕ) → ◌≡◌ {A = Option OwnedModes} None (Some o) → lists o.modes m ≡ true → Placed (ThatThing (KeptMode o.component m))
none_listed o m q h = no_pass o (sym q)

-- what holds of the modes that are listed holds of those that a rule lists
pub some_listed : (P : Item → Type 0) (u : OwnedModes) → ((m : ℕ) → lists u.modes m ≡ true → P (ThatThing (KeptMode u.component m))) → (o : OwnedModes) (m : ℕ) → Some u ≡ Some o → lists o.modes m ≡ true → P (ThatThing (KeptMode o.component m))
some_listed P u h o m q = subst (λ (o : OwnedModes). lists o.modes m ≡ true → P (ThatThing (KeptMode o.component m))) (same_modes u o q) (h m)

module _ (s : Sheet) (a : accepted s ≡ true) where
  two_nodes : (f : Node → Bool) (n b c : ℕ) → ((ltb b n && is (node_at s b) f) && (ltb c n && is (node_at s c) f)) ≡ true → Placed (ThatNode b) × Placed (ThatNode c)
  two_nodes f n b c h =
      let p = and_parts (ltb b n && is (node_at s b) f) (ltb c n && is (node_at s c) f) h in
      (node_there s a b f (and_parts (ltb b n) (is (node_at s b) f) p.0).1, node_there s a c f (and_parts (ltb c n) (is (node_at s c) f) p.1).1)

  value_nodes : (n b c : ℕ) → ((ltb b n && value_node s b) && (ltb c n && value_node s c)) ≡ true → Placed (ThatNode b) × Placed (ThatNode c)
  value_nodes n b c h = two_nodes gives_value n b c h

  condition_nodes : (n b c : ℕ) → ((ltb b n && condition_node s b) && (ltb c n && condition_node s c)) ≡ true → Placed (ThatNode b) × Placed (ThatNode c)
  condition_nodes n b c h = two_nodes (λ x. not (gives_value x)) n b c h

  named_element : (e : ℕ) → is_some (element_at s e) ≡ true → Placed (ThatThing (KeptElement e))
  named_element e h = by (element_at s e) refl h
    where
      by : (o : Option Element) → element_at s e ≡ o → is_some o ≡ true → Placed (ThatThing (KeptElement e))
      by None q h = absurd (false≢true h)
      by (Some x) q h = element_there s a e x q

  named_placed : (n : ℕ) (y : Node) → node_names s n y ≡ true → NamesMode y → EffectsPlaced (node_rule n y)
  named_placed n (Constant v) h m = record { items = (tt, (tt, (tt, tt))); modes = none_listed }
  named_placed n (Reading e) h m = record { items = (named_element e h, (tt, (tt, tt))); modes = none_listed }
  named_placed n (Sum b c) h m = let p = value_nodes n b c h in record { items = (p.0, (p.1, (tt, tt))); modes = none_listed }
  named_placed n (Difference b c) h m = let p = value_nodes n b c h in record { items = (p.0, (p.1, (tt, tt))); modes = none_listed }
  named_placed n True h m = record { items = (tt, (tt, (tt, tt))); modes = none_listed }
  named_placed n (Equal b c) h m = let p = value_nodes n b c h in record { items = (p.0, (p.1, (tt, tt))); modes = none_listed }
  named_placed n (Less b c) h m = let p = value_nodes n b c h in record { items = (p.0, (p.1, (tt, tt))); modes = none_listed }
  named_placed n (Not b) h m = record { items = (node_there s a b (λ x. not (gives_value x)) (and_parts (ltb b n) (condition_node s b) h).1, (tt, (tt, tt))); modes = none_listed }
  named_placed n (And b c) h m = let p = condition_nodes n b c h in record { items = (p.0, (p.1, (tt, tt))); modes = none_listed }
  named_placed n (InMode c k) h m = record { items = (has_mode_there s a c k h m, (tt, (tt, tt))); modes = none_listed }

  -- by what a row holds in its bytes
  held_by : {X : Type 0} (P : X → Type 0) (entry : Row → Entry X) (rs : List Row) → ((r : Row) → HeldAll P (entry r)) → (i : ℕ) (x : X) → there entry rs i ≡ Some x → P x
  held_by P entry rs all i x e = all (get_or rs i []) x (there_inside entry rs i x e).1

  node_placing : (n : ℕ) (y : Node) → node_at s n ≡ Some y → EffectsPlaced (node_rule n y)
  node_placing n y e = named_placed n y ((keeps_the_rules s a).nodes_right.passes n y e).names_right (held_by NamesMode node_entry (rows s nodes) node_names_mode n y e)

  flow_placing : (i : ℕ) (x : Flow) (p : Element) → flow_at s i ≡ Some x → element_at s x.port ≡ Some p → EffectsPlaced (flow_rule x p)
  flow_placing i x p e h =
      let right = ((keeps_the_rules s a).flows_right.passes i x e).names_right in
      let q = and_parts (is (element_at s x.port) (λ p. is_port p && has_modes s p.component x.modes)) (value_node s x.node) right in
      let modes = (and_parts (is_port p) (has_modes s p.component x.modes) (is_at (element_at s x.port) (λ p. is_port p && has_modes s p.component x.modes) p h q.0)).1 in
      let even = held_by (λ x. x.modes % 2 ≡ 0) flow_entry (rows s flows) flow_even i x e in
      record { items = (node_there s a x.node gives_value q.1, (tt, (tt, tt))); modes = some_listed Placed (record { component = p.component; modes = x.modes }) (λ m l. listed_there s a p.component x.modes m modes even l) }

  connection_placing : (i : ℕ) (x : Connection) → connection_at s i ≡ Some x → EffectsPlaced (connection_rule x)
  connection_placing i x e =
      let right = ((keeps_the_rules s a).connections_right.passes i x e).names_right in
      let q = and_parts (leads (event_at s x.out_event) (event_at s x.in_event)) (has_modes s x.owner x.modes) right in
      let o = is_cases (event_at s x.out_event) (λ u. goes_out u && is (event_at s x.in_event) (λ v. not (goes_out v) && not (eqb u.component v.component))) q.0 in
      let v = is_cases (event_at s x.in_event) (λ v. not (goes_out v) && not (eqb o.0.component v.component)) (and_parts (goes_out o.0) _ o.2).1 in
      let even = held_by (λ x. x.modes % 2 ≡ 0) connection_entry (rows s connections) connection_even i x e in
      record { items = (event_there s a x.out_event o.0 o.1, (event_there s a x.in_event v.0 v.1, (tt, tt))); modes = some_listed Placed (record { component = x.owner; modes = x.modes }) (λ m l. listed_there s a x.owner x.modes m q.1 even l) }

  from_placed : (t : ℕ) (y : Transition) → transition_at s t ≡ Some y → Placed (ThatThing (KeptMode y.component y.from))
  from_placed t y e =
      let right = ((keeps_the_rules s a).transitions_right.passes t y e).names_right in
      let some = held_by (λ y. 1 ≤ y.from) transition_entry (rows s transitions) from_some t y e in
      has_mode_there s a y.component y.from (and_parts (has_mode s y.component y.from) _ right).0 some

  event_named_placed : (c : ℕ) (o : Option ℕ) → event_of s c o ≡ true → PlacedIf (event_items o)
  event_named_placed c None h = tt
  event_named_placed c (Some v) h = let q = is_cases (event_at s v) (λ y. eqb y.component c) h in event_there s a v q.0 q.1

  transition_placing : (t : ℕ) (y : Transition) → transition_at s t ≡ Some y → EffectsPlaced (transition_rule y)
  transition_placing t y e =
      let right = ((keeps_the_rules s a).transitions_right.passes t y e).names_right in
      let p = and_parts (has_mode s y.component y.from) _ right in
      let q = and_parts (has_mode s y.component y.to) _ p.1 in
      let u = and_parts (event_of s y.component y.event) (condition_node s y.guard) q.1 in
      record { items = (from_placed t y e, (event_named_placed y.component y.event u.0, (node_there s a y.guard (λ x. not (gives_value x)) u.1, tt))); modes = none_listed }

  setting_placing : (i : ℕ) (x : Setting) (y : Transition) → setting_at s i ≡ Some x → transition_at s x.transition ≡ Some y → EffectsPlaced (setting_rule x y)
  setting_placing i x y e h =
      let right = ((keeps_the_rules s a).settings_right.passes i x e).names_right in
      record { items = (from_placed x.transition y h, (node_there s a x.node gives_value (and_parts (settable (transition_at s x.transition) (element_at s x.element)) (value_node s x.node) right).1, (tt, tt))); modes = none_listed }

  placing : (k i : ℕ) (r : Rule) → Origin s k i r → EffectsPlaced r
  placing k i r (of_node y l e q) = subst EffectsPlaced q (node_placing i y e)
  placing k i r (of_flow x p l e h q) = subst EffectsPlaced q (flow_placing i x p e h)
  placing k i r (of_connection x l e q) = subst EffectsPlaced q (connection_placing i x e)
  placing k i r (of_transition y l e q) = subst EffectsPlaced q (transition_placing i y e)
  placing k i r (of_setting x y l e h q) = subst EffectsPlaced q (setting_placing i x y e h)

  -- The effects of the rules of an accepted sheet have places.
  pub rule_placed : (k i : ℕ) (r : Rule) → rule_at s k i ≡ Some r → (x : Item) → Effect r x → Placed x
  rule_placed k i r e = effects_placed r (placing k i r (origin s k i r e))

  -- and so do the nodes of its questions
  pub question_placed : (q : ℕ) (x : Question) → question_at s q ≡ Some x → Placed (ThatNode x.node)
  question_placed q x e = node_there s a x.node (λ y. not (gives_value y)) ((keeps_the_rules s a).questions_right.passes q x e).names_right
