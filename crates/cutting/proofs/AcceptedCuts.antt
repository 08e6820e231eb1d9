-- A cut of an accepted sheet is accepted.
use Rattle.std.proofs.Common.{◌≡◌, ℕ, ◌+◌, ◌^◌, Bool, true, not, ◌&&◌, eqb, ltb, leb, [], ◌∷◌, is_some, Some, None, Option, sym, refl, ap, ◌∙◌, arith}
use Rattle.std.proofs.lemmas.Bool.{and_parts, and_from, eq-eqb, le-leb, cond_both}
use Rattle.std.specs.Option.{option_map}
use Rattle.sheet.specs.declared.rows.Connection.{Connection}
use Rattle.sheet.specs.declared.rows.Flow.{Flow}
use Rattle.sheet.specs.declared.rows.Node.{Node}
use Rattle.sheet.specs.declared.rows.Node.TheVariants.{Constant, Element as Reading, Sum, Difference, True, Equal, Less, Not, And, InMode}
use Rattle.sheet.specs.declared.rows.Setting.{Setting}
use Rattle.sheet.specs.declared.rows.Target.{Target}
use Rattle.sheet.specs.declared.rows.Target.TheVariants.{Element as ThatElement, ElementFrom, AnyMode}
use Rattle.sheet.specs.declared.rows.Transition.{Transition}
use Rattle.sheet.specs.Accept.{accepted}
use Rattle.sheet.specs.Laws.{Passes, KeepsTheRules, ReadsBack}
use Rattle.sheet.specs.Lookup.{is, component_at, element_at, event_at, node_at, flow_at, transition_at, setting_at}
use Rattle.sheet.specs.Resting.{operands, among, rests}
use Rattle.sheet.specs.Rules.{has_mode, has_modes, gives_value, value_node, condition_node, is_port, node_names, element_checks, event_checks, node_checks, flows_clash, flow_checks, leads, connection_checks, event_of, transition_checks, settable, settings_clash, setting_checks, question_checks}
use Rattle.sheet.specs.Sections.{Sheet, rows, elements, events, nodes, flows, connections, settings, questions}
use Rattle.sheet.specs.Typed.{element_entry, event_entry, node_entry, flow_entry, connection_entry, setting_entry, question_entry}
use Rattle.sheet.proofs.Acceptance.{reads_back}
use Rattle.sheet.proofs.Lookups.{is_cases, is_from}
use Rattle.sheet.proofs.Meaning.{keeps_the_rules, rules_kept}
use Rattle.sheet.proofs.Rested.{among_first, among_second}
use Rattle.cutting.specs.declared.kinds.Thing.TheVariants.{Element as KeptElement, Event as KeptEvent, Mode as KeptMode}
use Rattle.cutting.specs.Agreement.{Pile, uncut, cut_above}
use Rattle.cutting.specs.CutSheet.{keeps_events, keeps_setting, shown_mode, is_used, cut_sheet, IsCutFor}
use Rattle.cutting.specs.Kept.{Kept, Chosen, Closed, chosen_in, keeps_from}
use Rattle.cutting.specs.Laws.{CutsAreAccepted}
use Rattle.cutting.proofs.CutRows.{with_to, with_start, component_cut}
use Rattle.cutting.proofs.CutSections.{names_pass, stronger_fails, clear_kept, section_stays, components_stay, transitions_stay}
use Rattle.cutting.proofs.CutShapes.{cut_shaped}
use Rattle.cutting.proofs.KeptRows.{element_kept, event_kept, node_kept, node_was, transition_stays, event_of_kept, flow_was, setting_was}
use Rattle.cutting.proofs.Passings.{found}
use Rattle.cutting.proofs.Restings.{rests_hit, rests_itself, rests_before}
use Rattle.cutting.proofs.UsedNodes.{RestsOnKept, kept_operand, flow_rests_on_kept, guard_rests_on_kept, setting_rests_on_kept, question_rests_on_kept, used_rests}

module _ (s : Sheet) (chosen : Chosen) (k : Kept) (closed : Closed s chosen k) (acc : accepted s ≡ true) where
  -- the cut sheet
  abbrev cut : Sheet
  cut = cut_sheet k chosen s

  -- ---- what a remaining row names remains

  -- a test of a component's number of modes
  number_stays : (p : ℕ → Bool) (c : ℕ) → is (component_at s c) (λ x. p x.modes) ≡ true → is (component_at cut c) (λ x. p x.modes) ≡ true
  number_stays p c h =
      let q = is_cases (component_at s c) (λ x. p x.modes) h in
      is_from (component_at cut c) (λ x. p x.modes) (with_start k c q.0) (component_cut s acc k chosen c ∙ ap (option_map (with_start k c)) q.1) q.2

  component_stays : (c : ℕ) → is_some (component_at s c) ≡ true → is_some (component_at cut c) ≡ true
  component_stays c h = ap is_some (component_cut s acc k chosen c ∙ ap (option_map (with_start k c)) (found (component_at s c) h).1)

  mode_stays : (c m : ℕ) → has_mode s c m ≡ true → has_mode cut c m ≡ true
  mode_stays c m h = number_stays (λ n. leb m n) c h

  modes_stay : (c set : ℕ) → has_modes s c set ≡ true → has_modes cut c set ≡ true
  modes_stay c set h = number_stays (λ n. ltb set (2 ^ (n + 1))) c h

  -- a node that a remaining row names, by a test of what it is
  node_stays : (p : Node → Bool) (n : ℕ) → RestsOnKept k chosen s n → is (node_at s n) p ≡ true → is (node_at cut n) p ≡ true
  node_stays p n g h =
      let q = is_cases (node_at s n) p h in
      ap (λ o. is o p) (node_kept k chosen s n (g.nodes n (rests_itself s acc n q.0 q.1))) ∙ h

  -- what rests on nothing forbidden in the whole does not in the cut
  rests_right_stays : (t : Target) (n : ℕ) → not (rests s t n) ≡ true → not (rests cut t n) ≡ true
  rests_right_stays t n h = stronger_fails (rests s t n) (rests cut t n) (rests_before s acc cut (λ n x e. (node_was k chosen s n x e).0) t n) h

  -- ---- nodes

  module _ (i : ℕ) (x : Node) (e : node_at s i ≡ Some x) (g : RestsOnKept k chosen s i) where
    lower_stays : (p : Node → Bool) (o : ℕ) → among o (operands x) ≡ true → (ltb o i && is (node_at s o) p) ≡ true → (ltb o i && is (node_at cut o) p) ≡ true
    lower_stays p o a h =
        let u = and_parts (ltb o i) (is (node_at s o) p) h in
        and_from (ltb o i) (is (node_at cut o) p) u.0 (node_stays p o (kept_operand k chosen s acc i o x e a g) u.1)

    two_stay : (p : Node → Bool) (a b : ℕ) → operands x ≡ a ∷ b ∷ [] → ((ltb a i && is (node_at s a) p) && (ltb b i && is (node_at s b) p)) ≡ true → ((ltb a i && is (node_at cut a) p) && (ltb b i && is (node_at cut b) p)) ≡ true
    two_stay p a b o h =
        let u = and_parts (ltb a i && is (node_at s a) p) (ltb b i && is (node_at s b) p) h in
        and_from (ltb a i && is (node_at cut a) p) (ltb b i && is (node_at cut b) p)
        (lower_stays p a (ap (among a) o ∙ among_first a (b ∷ [])) u.0)
        (lower_stays p b (ap (among b) o ∙ among_second a b) u.1)

  names_stay : (i : ℕ) (x : Node) → node_at s i ≡ Some x → RestsOnKept k chosen s i → node_names s i x ≡ true → node_names cut i x ≡ true
  names_stay i (Constant v) e g h = refl
  names_stay i (Reading d) e g h = ap is_some (element_kept k chosen s d (g.elements d (rests_hit s acc (ThatElement d) i (Reading d) e (eq-eqb d d refl)))) ∙ h
  names_stay i (Sum a b) e g h = two_stay i (Sum a b) e g gives_value a b refl h
  names_stay i (Difference a b) e g h = two_stay i (Difference a b) e g gives_value a b refl h
  names_stay i True e g h = refl
  names_stay i (Equal a b) e g h = two_stay i (Equal a b) e g gives_value a b refl h
  names_stay i (Less a b) e g h = two_stay i (Less a b) e g gives_value a b refl h
  names_stay i (Not a) e g h = lower_stays i (Not a) e g (λ x. not (gives_value x)) a (among_first a []) h
  names_stay i (And a b) e g h = two_stay i (And a b) e g (λ x. not (gives_value x)) a b refl h
  names_stay i (InMode c m) e g h = mode_stays c m h

  -- ---- flows

  flow_passes : (i : ℕ) (x : Flow) → k (KeptElement x.port) ≡ true → flow_at s i ≡ Some x → Passes (flow_checks s i x) → Passes (flow_checks cut i x)
  flow_passes i x h e p =
      let g = flow_rests_on_kept k chosen s acc closed i x e h in
      let u = and_parts (is (element_at s x.port) (λ y. is_port y && has_modes s y.component x.modes)) (value_node s x.node) p.names_right in
      let q = is_cases (element_at s x.port) (λ y. is_port y && has_modes s y.component x.modes) u.0 in
      let v = and_parts (is_port q.0) (has_modes s q.0.component x.modes) q.2 in
      record {
        names_right = and_from (is (element_at cut x.port) (λ y. is_port y && has_modes cut y.component x.modes)) (value_node cut x.node)
            (is_from (element_at cut x.port) (λ y. is_port y && has_modes cut y.component x.modes) q.0 (element_kept k chosen s x.port h ∙ q.1) (and_from (is_port q.0) (has_modes cut q.0.component x.modes) v.0 (modes_stay q.0.component x.modes v.1)))
            (node_stays gives_value x.node g u.1);
        clash_free = clear_kept flow_entry flows_clash (rows s flows) (rows cut flows) (λ j y f. (flow_was k chosen s j y f).0) i x p.clash_free;
        rests_right = rests_right_stays (ElementFrom x.port) x.node p.rests_right;
      }

  -- ---- connections

  leads_stays : (o v : ℕ) → k (KeptEvent o) ≡ true → k (KeptEvent v) ≡ true → leads (event_at s o) (event_at s v) ≡ true → leads (event_at cut o) (event_at cut v) ≡ true
  leads_stays o v f g h = ap (λ x. leads x (event_at cut v)) (event_kept k chosen s o f) ∙ ap (leads (event_at s o)) (event_kept k chosen s v g) ∙ h

  connection_passes : (i : ℕ) (x : Connection) → keeps_events k x ≡ true → Passes (connection_checks s i x) → Passes (connection_checks cut i x)
  connection_passes i x h p =
      let both = and_parts (k (KeptEvent x.out_event)) (k (KeptEvent x.in_event)) h in
      let u = and_parts (leads (event_at s x.out_event) (event_at s x.in_event)) (has_modes s x.owner x.modes) p.names_right in
      names_pass _ (and_from (leads (event_at cut x.out_event) (event_at cut x.in_event)) (has_modes cut x.owner x.modes) (leads_stays x.out_event x.in_event both.0 both.1 u.0) (modes_stay x.owner x.modes u.1))

  -- ---- transitions

  event_stays : (c : ℕ) (v : Option ℕ) → ((e : ℕ) → v ≡ Some e → k (KeptEvent e) ≡ true) → event_of s c v ≡ true → event_of cut c v ≡ true
  event_stays c None f h = refl
  event_stays c (Some e) f h = ap (λ o. is o (λ y. eqb y.component c)) (event_kept k chosen s e (f e refl)) ∙ h

  shown_stays : (c m : ℕ) → has_mode s c m ≡ true → has_mode cut c (shown_mode k c m) ≡ true
  shown_stays c m h =
      let q = is_cases (component_at s c) (λ x. leb m x.modes) h in
      let none : has_mode s c 0 ≡ true = is_from (component_at s c) (λ x. leb 0 x.modes) q.0 q.1 (le-leb 0 q.0.modes (omega arith)) in
      cond_both (k (KeptMode c m)) m 0 (λ j. has_mode cut c j ≡ true) (λ _. mode_stays c m h) (λ _. mode_stays c 0 none)

  transition_passes : (i : ℕ) (x : Transition) → keeps_from k x ≡ true → transition_at s i ≡ Some x → Passes (transition_checks s i x) → Passes (transition_checks cut i (with_to k x))
  transition_passes i x h e p =
      let g = guard_rests_on_kept k chosen s acc closed i x e h in
      let a = and_parts (has_mode s x.component x.from) (has_mode s x.component x.to && (event_of s x.component x.event && condition_node s x.guard)) p.names_right in
      let b = and_parts (has_mode s x.component x.to) (event_of s x.component x.event && condition_node s x.guard) a.1 in
      let d = and_parts (event_of s x.component x.event) (condition_node s x.guard) b.1 in
      record {
        names_right = and_from (has_mode cut x.component x.from) _ (mode_stays x.component x.from a.0)
            (and_from (has_mode cut x.component (shown_mode k x.component x.to)) _ (shown_stays x.component x.to b.0)
            (and_from (event_of cut x.component x.event) (condition_node cut x.guard) (event_stays x.component x.event (λ v. event_of_kept k chosen s closed i v x e h) d.0)
            (node_stays (λ y. not (gives_value y)) x.guard g d.1)));
        clash_free = refl;
        rests_right = rests_right_stays AnyMode x.guard p.rests_right;
      }

  -- ---- settings

  settable_stays : (t e : ℕ) → is (transition_at s t) (keeps_from k) ≡ true → k (KeptElement e) ≡ true → settable (transition_at s t) (element_at s e) ≡ true → settable (transition_at cut t) (element_at cut e) ≡ true
  settable_stays t e f g h =
      let q = is_cases (transition_at s t) (keeps_from k) f in
      ap (λ o. settable o (element_at cut e)) (transition_stays k chosen s t q.0 q.1 q.2)
      ∙ ap (settable (Some (with_to k q.0))) (element_kept k chosen s e g)
      ∙ sym (ap (λ o. settable o (element_at s e)) q.1)
      ∙ h

  setting_passes : (i : ℕ) (x : Setting) → keeps_setting k s x ≡ true → setting_at s i ≡ Some x → Passes (setting_checks s i x) → Passes (setting_checks cut i x)
  setting_passes i x h e p =
      let both = and_parts (is (transition_at s x.transition) (keeps_from k)) (k (KeptElement x.element)) h in
      let u = and_parts (settable (transition_at s x.transition) (element_at s x.element)) (value_node s x.node) p.names_right in
      record {
        names_right = and_from (settable (transition_at cut x.transition) (element_at cut x.element)) (value_node cut x.node)
            (settable_stays x.transition x.element both.0 both.1 u.0)
            (node_stays gives_value x.node (setting_rests_on_kept k chosen s acc closed i x e h) u.1);
        clash_free = clear_kept setting_entry settings_clash (rows s settings) (rows cut settings) (λ j y f. (setting_was k chosen s j y f).0) i x p.clash_free;
        rests_right = refl;
      }

  -- ---- the sheet

  cut_keeps_the_rules : KeepsTheRules cut
  cut_keeps_the_rules =
      let whole = keeps_the_rules s acc in
      record {
        shapes_kept = cut_shaped k chosen s whole.shapes_kept;
        components_right = components_stay k chosen s whole.components_right;
        elements_right = section_stays elements element_entry refl (λ i x. k (KeptElement i)) (element_checks s) (element_checks cut) (rows s elements)
            (λ i x h e p. names_pass _ (component_stays x.component p.names_right)) whole.elements_right;
        events_right = section_stays events event_entry refl (λ i x. k (KeptEvent i)) (event_checks s) (event_checks cut) (rows s events)
            (λ i x h e p. names_pass _ (component_stays x.component p.names_right)) whole.events_right;
        nodes_right = section_stays nodes node_entry refl (λ i x. is_used k chosen s i) (node_checks s) (node_checks cut) (rows s nodes)
            (λ i x h e p. names_pass _ (names_stay i x e (used_rests k chosen s acc closed i h) p.names_right)) whole.nodes_right;
        flows_right = section_stays flows flow_entry refl (λ i x. k (KeptElement x.port)) (flow_checks s) (flow_checks cut) (rows s flows)
            flow_passes whole.flows_right;
        connections_right = section_stays connections connection_entry refl (λ i. keeps_events k) (connection_checks s) (connection_checks cut) (rows s connections)
            (λ i x h e p. connection_passes i x h p) whole.connections_right;
        transitions_right = transitions_stay k chosen s (transition_checks s) (transition_checks cut) transition_passes whole.transitions_right;
        settings_right = section_stays settings setting_entry refl (λ i. keeps_setting k s) (setting_checks s) (setting_checks cut) (rows s settings)
            setting_passes whole.settings_right;
        questions_right = section_stays questions question_entry refl (λ i x. chosen i) (question_checks s) (question_checks cut) (rows s questions)
            (λ i x h e p. names_pass _ (node_stays (λ y. not (gives_value y)) x.node (question_rests_on_kept k chosen s acc closed i x e h) p.names_right)) whole.questions_right;
      }

pub cuts_are_accepted : CutsAreAccepted
cuts_are_accepted s chosen k closed acc = rules_kept (cut_sheet k chosen s) (cut_keeps_the_rules s chosen k closed acc)

-- What is written of a cut is read back as the cut.
pub written_cuts_are_read : (s : Sheet) (chosen : Chosen) (k : Kept) → Closed s chosen k → accepted s ≡ true → ReadsBack (cut_sheet k chosen s)
written_cuts_are_read s chosen k closed acc = reads_back (cut_sheet k chosen s) (cuts_are_accepted s chosen k closed acc)

-- The cut for a set of questions is accepted.
pub cut_for_is_accepted : (s : Sheet) (set : ℕ) (t : Sheet) → IsCutFor s set t → accepted s ≡ true → accepted t ≡ true
cut_for_is_accepted s set t c acc = ap accepted c.leaves ∙ cuts_are_accepted s (chosen_in set) c.kept c.smallest.closed acc

-- The sheet of a pile on an accepted sheet is accepted.
pub piles_are_accepted : {a b : Sheet} → Pile a b → accepted a ≡ true → accepted b ≡ true
piles_are_accepted uncut acc = acc
piles_are_accepted (cut_above {b} {chosen} {k} p m) acc = cuts_are_accepted b chosen k m.closed (piles_are_accepted p acc)
