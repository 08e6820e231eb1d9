-- The rules by which marks follow from marks, row by row.
use Rattle.std.specs.Prelude.{◌≡◌, ℕ, zero, suc, Bool, true, cond, List, [], ◌∷◌, Some, None, Option, ◌==◌, slice_index_or}
use Rattle.std.specs.List.{list_any, fold}
use Rattle.std.specs.Option.{option_map}
use Rattle.sheet.specs.declared.rows.Connection.{Connection}
use Rattle.sheet.specs.declared.rows.Element.{Element}
use Rattle.sheet.specs.declared.rows.Flow.{Flow}
use Rattle.sheet.specs.declared.rows.Node.{Node}
use Rattle.sheet.specs.declared.rows.Node.TheVariants.{Constant, Element as Reading, Sum, Difference, True, Equal, Less, Not, And, InMode}
use Rattle.sheet.specs.declared.rows.Question.{Question}
use Rattle.sheet.specs.declared.rows.Setting.{Setting}
use Rattle.sheet.specs.declared.rows.Transition.{Transition}
use Rattle.sheet.specs.Lookup.{element_at, node_at, flow_at, connection_at, transition_at, setting_at, question_at, is}
use Rattle.sheet.specs.Sections.{Sheet, nodes, flows, connections, transitions, settings}
use Rattle.running.specs.Values.{lists}
use Rattle.cutting.specs.declared.kinds.Thing.TheVariants.{Element as KeptElement, Event as KeptEvent, Mode as KeptMode}
use Rattle.cutting.specs.Kept.{Chosen}
use Rattle.marking.specs.declared.kinds.Item.{Item}
use Rattle.marking.specs.declared.kinds.Item.TheVariants.{Thing as ThatThing, Node as ThatNode}
use Rattle.marking.specs.declared.kinds.OwnedModes.{OwnedModes}
use Rattle.marking.specs.declared.kinds.Rule.{Rule}
use Rattle.marking.specs.Items.{marked, with_mark}

-- ---- the rule of each row

abbrev pub element_item : ℕ → Option Item
element_item e = Some (ThatThing (KeptElement e))

abbrev pub event_item : ℕ → Option Item
event_item v = Some (ThatThing (KeptEvent v))

abbrev pub mode_item : ℕ → ℕ → Option Item
mode_item c m = Some (ThatThing (KeptMode c m))

abbrev pub node_item : ℕ → Option Item
node_item n = Some (ThatNode n)

-- the event that a transition has, if any
abbrev pub event_items : Option ℕ → Option Item
event_items None = None
event_items (Some v) = event_item v

abbrev pub items : (first second third : Option Item) → List (Option Item)
items x y z = x ∷ y ∷ z ∷ []

-- a rule that has no listed modes
abbrev pub plain_rule : (causes effects : List (Option Item)) → Rule
plain_rule x y = record { causes = x; effects = y; modes = None }

-- a rule with the modes of a set of a component
abbrev pub rule_with_modes : (causes effects : List (Option Item)) → (component set : ℕ) → Rule
rule_with_modes x y c set = record { causes = x; effects = y; modes = Some (record { component = c; modes = set }) }

-- the items that a node names, and the nodes that are its operands
abbrev pub named_items : Node → List (Option Item)
named_items (Constant v) = items None None None
named_items (Reading e) = items (element_item e) None None
named_items (Sum a b) = items (node_item a) (node_item b) None
named_items (Difference a b) = items (node_item a) (node_item b) None
named_items True = items None None None
named_items (Equal a b) = items (node_item a) (node_item b) None
named_items (Less a b) = items (node_item a) (node_item b) None
named_items (Not a) = items (node_item a) None None
named_items (And a b) = items (node_item a) (node_item b) None
named_items (InMode c m) = items (mode_item c m) None None

-- A node: what it names.
abbrev pub node_rule : ℕ → Node → Rule
node_rule n x = plain_rule (items (node_item n) None None) (named_items x)

-- A flow to a port: the flow's node, and its listed modes of the port's component.
abbrev pub flow_rule : Flow → Element → Rule
flow_rule x p = rule_with_modes (items (element_item x.port) None None) (items (node_item x.node) None None) p.component x.modes

-- A connection, by either event: both events, and its listed modes of its owner.
abbrev pub connection_rule : Connection → Rule
connection_rule x =
    let events = items (event_item x.out_event) (event_item x.in_event) None in
    rule_with_modes events events x.owner x.modes

-- A transition, by its from mode, its to mode or its event: its from mode, its event and its guard.
abbrev pub transition_rule : Transition → Rule
transition_rule y =
    plain_rule
    (items (mode_item y.component y.from) (mode_item y.component y.to) (event_items y.event))
    (items (mode_item y.component y.from) (event_items y.event) (node_item y.guard))

-- A setting of an element by a transition: the transition's from mode, and the setting's node.
abbrev pub setting_rule : Setting → Transition → Rule
setting_rule x y = plain_rule (items (element_item x.element) None None) (items (mode_item y.component y.from) (node_item x.node) None)

abbrev pub flow_rule_at : Sheet → Option Flow → Option Rule
flow_rule_at s None = None
flow_rule_at s (Some x) = option_map (flow_rule x) (element_at s x.port)

abbrev pub setting_rule_at : Sheet → Option Setting → Option Rule
setting_rule_at s None = None
setting_rule_at s (Some x) = option_map (setting_rule x) (transition_at s x.transition)

-- the rule of row i of section k, if there is one
abbrev pub rule_at : Sheet → (k i : ℕ) → Option Rule
rule_at s k i =
    cond (k == nodes) (option_map (node_rule i) (node_at s i))
    (cond (k == flows) (flow_rule_at s (flow_at s i))
    (cond (k == connections) (option_map connection_rule (connection_at s i))
    (cond (k == transitions) (option_map transition_rule (transition_at s i))
    (cond (k == settings) (setting_rule_at s (setting_at s i)) None))))

-- ---- what it means that a rule holds

-- one of the causes is in j
abbrev pub caused : (Item → Bool) → Rule → Bool
caused j r = list_any (λ o. is o j) r.causes

-- The item is an effect of the rule.
pub data Effect (r : Rule) : Item → Type 0 where
  named : {x : Item} (i : ℕ) → slice_index_or r.effects i None ≡ Some x → Effect r x
  listed : {o : OwnedModes} {m : ℕ} → r.modes ≡ Some o → lists o.modes m ≡ true → Effect r (ThatThing (KeptMode o.component m))

-- If a cause is in j, the effects are in k.
abbrev pub Holds : Rule → (j k : Item → Bool) → Type 0
Holds r j k = caused j r ≡ true → (x : Item) → Effect r x → k x ≡ true

-- The rules of all rows hold of a set of items, and the nodes of the chosen questions are in it.
pub record RulesHold (s : Sheet) (chosen : Chosen) (j : Item → Bool) : Type 0 where
  pub by_rows : (k i : ℕ) (r : Rule) → rule_at s k i ≡ Some r → Holds r j j
  pub by_questions : (q : ℕ) (x : Question) → chosen q ≡ true → question_at s q ≡ Some x → j (ThatNode x.node) ≡ true

-- ---- marks by a rule

abbrev pub with_mark_of : List Bool → Option Item → List Bool
with_mark_of table None = table
with_mark_of table (Some x) = with_mark table x

-- the table with the modes of a set marked that are below n
abbrev pub with_modes : List Bool → (component set n : ℕ) → List Bool
with_modes table c set zero = table
with_modes table c set (suc n) = cond (lists set n) (with_mark (with_modes table c set n) (ThatThing (KeptMode c n))) (with_modes table c set n)

-- more than the number of a mode
abbrev pub mode_numbers : ℕ
mode_numbers = 16

abbrev pub with_items : List Bool → List (Option Item) → List Bool
with_items table xs = fold with_mark_of table xs

-- the table with the listed modes of a rule marked
abbrev pub with_listed : List Bool → Option OwnedModes → List Bool
with_listed table None = table
with_listed table (Some o) = with_modes table o.component o.modes mode_numbers

-- the table with the effects of a rule marked, if a cause is
abbrev pub applied : List Bool → Rule → List Bool
applied table r = cond (caused (marked table) r) (with_listed (with_items table r.effects) r.modes) table
