-- Which row a rule comes from.
use Rattle.std.proofs.Common.{◌≡◌, ℕ, ◌<◌, ◌≤◌, Bool, true, false, cond, eqb, ◌⊎◌, length, Some, None, Option, sym, refl, inl, inr, ⊎_elim, arith}
use Rattle.std.proofs.lemmas.Bool.{eqb-true}
use Rattle.std.specs.Option.{option_map}
use Rattle.sheet.specs.declared.rows.Connection.{Connection}
use Rattle.sheet.specs.declared.rows.Element.{Element}
use Rattle.sheet.specs.declared.rows.Flow.{Flow}
use Rattle.sheet.specs.declared.rows.Node.{Node}
use Rattle.sheet.specs.declared.rows.Setting.{Setting}
use Rattle.sheet.specs.declared.rows.Transition.{Transition}
use Rattle.sheet.specs.Lookup.{element_at, node_at, flow_at, connection_at, transition_at, setting_at}
use Rattle.sheet.specs.Sections.{Sheet, rows, nodes, flows, connections, transitions, settings}
use Rattle.sheet.specs.Typed.{node_entry, flow_entry, connection_entry, transition_entry, setting_entry}
use Rattle.sheet.proofs.Firsts.{no_pass}
use Rattle.sheet.proofs.Meaning.{there_inside}
use Rattle.cutting.proofs.Passings.{mapped_found}
use Rattle.marking.specs.declared.kinds.Rule.{Rule}
use Rattle.marking.specs.Rules.{node_rule, flow_rule, connection_rule, transition_rule, setting_rule, flow_rule_at, setting_rule_at, rule_at}

-- The rule r of row i of section k comes from what the row holds.
pub data Origin (s : Sheet) (k i : ℕ) (r : Rule) : Type 0 where
  of_node : (x : Node) → k ≡ nodes → node_at s i ≡ Some x → node_rule i x ≡ r → Origin s k i r
  of_flow : (x : Flow) (p : Element) → k ≡ flows → flow_at s i ≡ Some x → element_at s x.port ≡ Some p → flow_rule x p ≡ r → Origin s k i r
  of_connection : (x : Connection) → k ≡ connections → connection_at s i ≡ Some x → connection_rule x ≡ r → Origin s k i r
  of_transition : (y : Transition) → k ≡ transitions → transition_at s i ≡ Some y → transition_rule y ≡ r → Origin s k i r
  of_setting : (x : Setting) (y : Transition) → k ≡ settings → setting_at s i ≡ Some x → transition_at s x.transition ≡ Some y → setting_rule x y ≡ r → Origin s k i r

either : {X : Type 0} (b : Bool) (u v w : X) → cond b u v ≡ w → ((b ≡ true) × (u ≡ w)) ⊎ (v ≡ w)
either true u v w e = inl (refl, e)
either false u v w e = inr e

module _ (s : Sheet) (k i : ℕ) (r : Rule) where
  from_flow : (o : Option Flow) → flow_at s i ≡ o → k ≡ flows → flow_rule_at s o ≡ Some r → Origin s k i r
  from_flow None h l e = no_pass r (sym e)
  from_flow (Some x) h l e = let p = mapped_found (flow_rule x) (element_at s x.port) r e in of_flow x p.0 l h p.1 p.2

  from_setting : (o : Option Setting) → setting_at s i ≡ o → k ≡ settings → setting_rule_at s o ≡ Some r → Origin s k i r
  from_setting None h l e = no_pass r (sym e)
  from_setting (Some x) h l e = let p = mapped_found (setting_rule x) (transition_at s x.transition) r e in of_setting x p.0 l h p.1 p.2

  abbrev at_settings : Option Rule
  at_settings = cond (eqb k settings) (setting_rule_at s (setting_at s i)) None

  abbrev at_transitions : Option Rule
  at_transitions = cond (eqb k transitions) (option_map transition_rule (transition_at s i)) at_settings

  abbrev at_connections : Option Rule
  at_connections = cond (eqb k connections) (option_map connection_rule (connection_at s i)) at_transitions

  abbrev at_flows : Option Rule
  at_flows = cond (eqb k flows) (flow_rule_at s (flow_at s i)) at_connections

  settings_origin : at_settings ≡ Some r → Origin s k i r
  settings_origin e =
      ⊎_elim
      (λ (p : (eqb k settings ≡ true) × (setting_rule_at s (setting_at s i) ≡ Some r)). from_setting (setting_at s i) refl (eqb-true k settings p.0) p.1)
      (λ (h : None ≡ Some r). no_pass r (sym h))
      (either (eqb k settings) (setting_rule_at s (setting_at s i)) None (Some r) e)

  transitions_origin : at_transitions ≡ Some r → Origin s k i r
  transitions_origin e =
      ⊎_elim
      (λ (p : (eqb k transitions ≡ true) × (option_map transition_rule (transition_at s i) ≡ Some r)). let q = mapped_found transition_rule (transition_at s i) r p.1 in of_transition q.0 (eqb-true k transitions p.0) q.1 q.2)
      settings_origin
      (either (eqb k transitions) (option_map transition_rule (transition_at s i)) at_settings (Some r) e)

  connections_origin : at_connections ≡ Some r → Origin s k i r
  connections_origin e =
      ⊎_elim
      (λ (p : (eqb k connections ≡ true) × (option_map connection_rule (connection_at s i) ≡ Some r)). let q = mapped_found connection_rule (connection_at s i) r p.1 in of_connection q.0 (eqb-true k connections p.0) q.1 q.2)
      transitions_origin
      (either (eqb k connections) (option_map connection_rule (connection_at s i)) at_transitions (Some r) e)

  flows_origin : at_flows ≡ Some r → Origin s k i r
  flows_origin e =
      ⊎_elim
      (λ (p : (eqb k flows ≡ true) × (flow_rule_at s (flow_at s i) ≡ Some r)). from_flow (flow_at s i) refl (eqb-true k flows p.0) p.1)
      connections_origin
      (either (eqb k flows) (flow_rule_at s (flow_at s i)) at_connections (Some r) e)

  pub origin : rule_at s k i ≡ Some r → Origin s k i r
  origin e =
      ⊎_elim
      (λ (p : (eqb k nodes ≡ true) × (option_map (node_rule i) (node_at s i) ≡ Some r)). let q = mapped_found (node_rule i) (node_at s i) r p.1 in of_node q.0 (eqb-true k nodes p.0) q.1 q.2)
      flows_origin
      (either (eqb k nodes) (option_map (node_rule i) (node_at s i)) at_flows (Some r) e)

  -- a rule is that of a row, in one of five sections
  pub record Inside : Type 0 where
    pub from_nodes : nodes ≤ k
    pub to_settings : k ≤ settings
    pub row : i < length (rows s k)

  pub inside : Origin s k i r → Inside
  inside (of_node x l e q) = record { from_nodes = omega arith; to_settings = omega arith; row = rw l (there_inside node_entry (rows s nodes) i x e).0 }
  inside (of_flow x p l e h q) = record { from_nodes = omega arith; to_settings = omega arith; row = rw l (there_inside flow_entry (rows s flows) i x e).0 }
  inside (of_connection x l e q) = record { from_nodes = omega arith; to_settings = omega arith; row = rw l (there_inside connection_entry (rows s connections) i x e).0 }
  inside (of_transition x l e q) = record { from_nodes = omega arith; to_settings = omega arith; row = rw l (there_inside transition_entry (rows s transitions) i x e).0 }
  inside (of_setting x y l e h q) = record { from_nodes = omega arith; to_settings = omega arith; row = rw l (there_inside setting_entry (rows s settings) i x e).0 }
