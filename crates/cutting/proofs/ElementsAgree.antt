-- Kept elements, and the nodes that rest on kept things, have the same values on a sheet and on its cut.
use Rattle.std.proofs.Common.{◌≡◌, ℕ, suc, ◌+◌, Bool, true, false, cond, ◌&&◌, eqb, List, [], ◌∷◌, length, get_or, ℤ, pos, Some, None, Option, sym, refl, ap, ◌∙◌, subst, ⊎_elim}
use Rattle.std.proofs.lemmas.Bool.{and_parts, and_left, eqb-true, cases_Bool, cond-true, cond-false}
use Rattle.std.specs.Option.{option_map}
use Rattle.sheet.specs.declared.rows.Element.{Element}
use Rattle.sheet.specs.declared.rows.Flow.{Flow}
use Rattle.sheet.specs.Accept.{accepted}
use Rattle.sheet.specs.Lookup.{held, there, element_at}
use Rattle.sheet.specs.Rules.{is_port}
use Rattle.sheet.specs.Sections.{Row, Sheet, rows, elements, flows}
use Rattle.sheet.specs.Tables.{grow, cell}
use Rattle.sheet.specs.Typed.{flow_entry}
use Rattle.sheet.proofs.Tables.{Agrees, tables_same}
use Rattle.running.specs.States.{State, mode_of, held_of}
use Rattle.running.specs.Steps.{value_at}
use Rattle.running.specs.Values.{bring, number_in, node_over, lists, feeds, in_force, port_value, element_value, element_cell, values, value_of, node_value}
use Rattle.running.proofs.Elements.{InForce, in_force_is}
use Rattle.cutting.specs.declared.kinds.Thing.TheVariants.{Element as KeptElement}
use Rattle.cutting.specs.CutSheet.{shown, cut_element, cut_flow, cut_sheet}
use Rattle.cutting.specs.Kept.{Kept, Chosen, Closed}
use Rattle.cutting.specs.Numbered.{numbered_from, numbered}
use Rattle.cutting.proofs.CutRows.{passing, held_stays, element_cut}
use Rattle.cutting.proofs.KeptRows.{element_kept}
use Rattle.cutting.proofs.NodesAgree.{node_over_shown}
use Rattle.cutting.proofs.NumberedLists.{length_numbered}
use Rattle.cutting.proofs.Passings.{nothing_passes}
use Rattle.cutting.proofs.Shown.{held_of_kept, in_kept_mode, lists_kept_modes}
use Rattle.cutting.proofs.UsedNodes.{RestsOnKept, flow_rests_on_kept}

-- ---- the flow in force

-- the same flow to a kept port is in force among the flows that stay, where the flows to it list both modes or neither
module _ (k : Kept) (p : ℕ) (kept : k (KeptElement p) ≡ true) (m n : ℕ) where
  abbrev stays : Flow → Bool
  stays x = k (KeptElement x.port)

  abbrev ListsBoth : Flow → Type 0
  ListsBoth f = f.port ≡ p → lists f.modes m ≡ lists f.modes n

  passing_feeds : (b : Bool) (f : Flow) → eqb f.port p ≡ false → feeds p n (cond b (Some f) None) ≡ false
  passing_feeds true f h = and_left (eqb f.port p) (lists f.modes n) h
  passing_feeds false f h = refl

  choice_same : (o others : Option Flow) → ((f : Flow) → o ≡ Some f → ListsBoth f) → cond (feeds p m o) o others ≡ cond (feeds p n (passing stays o)) (passing stays o) others
  choice_same None others both = refl
  choice_same (Some f) others both =
      ⊎_elim
      (λ (h : eqb f.port p ≡ true).
      let here : f.port ≡ p = eqb-true f.port p h in
      let passes : passing stays (Some f) ≡ Some f = cond-true (stays f) (Some f) None (ap (λ e. k (KeptElement e)) here ∙ kept) in
      ap (λ b. cond (eqb f.port p && b) (Some f) others) (both f refl here) ∙ sym (ap (λ o. cond (feeds p n o) o others) passes))
      (λ (h : eqb f.port p ≡ false).
      cond-false (feeds p m (Some f)) (Some f) others (and_left (eqb f.port p) (lists f.modes m) h)
      ∙ sym (cond-false (feeds p n (passing stays (Some f))) (passing stays (Some f)) others (passing_feeds (stays f) f h)))
      (cases_Bool (eqb f.port p))

  in_force_from : (i : ℕ) (rs : List Row) → ((j : ℕ) (f : Flow) → there flow_entry rs j ≡ Some f → ListsBoth f) → in_force rs p m ≡ in_force (numbered_from i (cut_flow k) rs) p n
  in_force_from i [] both = refl
  in_force_from i (r ∷ rs) both =
      choice_same (held (flow_entry r)) (in_force rs p m) (both 0)
      ∙ ap (λ o. cond (feeds p n o) o (in_force rs p m)) (sym (held_stays flows flow_entry refl stays r))
      ∙ ap (cond (feeds p n (held (flow_entry (cut_flow k i r)))) (held (flow_entry (cut_flow k i r)))) (in_force_from (i + 1) rs (λ j. both (suc j)))

-- the port's value, where the node of the flow in force gives the same
port_same : (x : Element) (o : Option Flow) (f g : ℕ → ℤ) → ((y : Flow) → o ≡ Some y → f y.node ≡ g y.node) → port_value x o f ≡ port_value x o g
port_same x None f g h = refl
port_same x (Some y) f g h = ap (bring x.lowest x.highest) (h y refl)

-- ---- the values

module _ (s : Sheet) (a : accepted s ≡ true) (k : Kept) (chosen : Chosen) (closed : Closed s chosen k) (w : State) where
  -- the tables of the elements of both sheets
  abbrev ones : ℕ → List ℤ → ℤ
  ones = element_cell s w

  abbrev others : ℕ → List ℤ → ℤ
  others = element_cell (cut_sheet k chosen s) (shown k w)

  -- the elements before e have the same values
  abbrev SameBefore : ℕ → Type 0
  SameBefore e = Agrees (λ d. k (KeptElement d) ≡ true) ones others (pos 0) e

  module _ (e : ℕ) (kept : k (KeptElement e) ≡ true) (x : Element) (stands : element_at s e ≡ Some x) where
    in_force_same : in_force (rows s flows) e (mode_of w x.component) ≡ in_force (numbered (cut_flow k) (rows s flows)) e (mode_of (shown k w) x.component)
    in_force_same =
        in_force_from k e kept (mode_of w x.component) (mode_of (shown k w) x.component) 0 (rows s flows) (λ j f d leads.
        lists_kept_modes k closed.no_mode_0 w x.component f.modes (λ m h.
        closed.flow_modes j m f x d (ap (element_at s) leads ∙ stands) (ap (λ e. k (KeptElement e)) leads ∙ kept) h))

    flow_node_same : SameBefore e → (f : Flow) → in_force (rows s flows) e (mode_of w x.component) ≡ Some f → number_in (node_over s w (grow ones e) f.node) ≡ number_in (node_over (cut_sheet k chosen s) (shown k w) (grow others e) f.node)
    flow_node_same same f d =
        let m = mode_of w x.component in
        let r = subst (InForce (rows s flows) e m) d (in_force_is (rows s flows) e m) in
        let leads : f.port ≡ e = eqb-true f.port e (and_parts (eqb f.port e) (lists f.modes m) r.2).0 in
        ap number_in
        (node_over_shown s a k chosen w (shown k w) (grow ones e) (grow others e) same (in_kept_mode k closed.no_mode_0 w) f.node
        (flow_rests_on_kept k chosen s a closed r.0 f r.1 (ap (λ e. k (KeptElement e)) leads ∙ kept)))

    port_shown : SameBefore e → port_value x (in_force (rows s flows) e (mode_of w x.component)) (λ n. number_in (node_over s w (grow ones e) n)) ≡ port_value x (in_force (numbered (cut_flow k) (rows s flows)) e (mode_of (shown k w) x.component)) (λ n. number_in (node_over (cut_sheet k chosen s) (shown k w) (grow others e) n))
    port_shown same =
        port_same x (in_force (rows s flows) e (mode_of w x.component)) (λ n. number_in (node_over s w (grow ones e) n)) (λ n. number_in (node_over (cut_sheet k chosen s) (shown k w) (grow others e) n)) (flow_node_same same)
        ∙ ap (λ o. port_value x o (λ n. number_in (node_over (cut_sheet k chosen s) (shown k w) (grow others e) n))) in_force_same

  element_by : (e : ℕ) (o : Option Element) → element_at s e ≡ o → k (KeptElement e) ≡ true → SameBefore e → element_value s w e (grow ones e) o ≡ element_value (cut_sheet k chosen s) (shown k w) e (grow others e) o
  element_by e None h kept same = refl
  element_by e (Some x) h kept same =
      ap (λ v. cond (is_port x) v (held_of w e)) (port_shown e kept x h same)
      ∙ ap (cond (is_port x) (port_value x (in_force (numbered (cut_flow k) (rows s flows)) e (mode_of (shown k w) x.component)) (λ n. number_in (node_over (cut_sheet k chosen s) (shown k w) (grow others e) n)))) (sym (held_of_kept k w e kept))

  element_shown : (e : ℕ) → k (KeptElement e) ≡ true → SameBefore e → cell ones e ≡ cell others e
  element_shown e kept same =
      element_by e (element_at s e) refl kept same
      ∙ ap (element_value (cut_sheet k chosen s) (shown k w) e (grow others e)) (sym (element_kept k chosen s e kept))

  pub values_shown : (e : ℕ) → k (KeptElement e) ≡ true → value_of s w e ≡ value_of (cut_sheet k chosen s) (shown k w) e
  values_shown e kept =
      tables_same (λ d. k (KeptElement d) ≡ true) ones others (pos 0) element_shown (length (rows s elements)) e kept
      ∙ ap (λ n. get_or (grow others n) e (pos 0)) (sym (length_numbered (cut_element k) (rows s elements)))

  -- what a node gives that rests on kept things only
  pub node_value_shown : (n : ℕ) → RestsOnKept k chosen s n → node_value s w n ≡ node_value (cut_sheet k chosen s) (shown k w) n
  node_value_shown n g = node_over_shown s a k chosen w (shown k w) (values s w) (values (cut_sheet k chosen s) (shown k w)) values_shown (in_kept_mode k closed.no_mode_0 w) n g

-- The value of an element of the cut: the one below, where the element is kept.
pub value_shown : (s : Sheet) → accepted s ≡ true → (k : Kept) (chosen : Chosen) → Closed s chosen k → (w : State) (e : ℕ) → value_at (cut_sheet k chosen s) (shown k w) e ≡ cond (k (KeptElement e)) (value_at s w e) None
value_shown s a k chosen closed w e =
    ⊎_elim
    (λ (h : k (KeptElement e) ≡ true).
    ap (option_map (λ x. value_of (cut_sheet k chosen s) (shown k w) e)) (element_kept k chosen s e h)
    ∙ ap (λ v. option_map (λ x. v) (element_at s e)) (sym (values_shown s a k chosen closed w e h))
    ∙ sym (cond-true (k (KeptElement e)) (value_at s w e) None h))
    (λ (h : k (KeptElement e) ≡ false).
    ap (option_map (λ x. value_of (cut_sheet k chosen s) (shown k w) e)) (element_cut k chosen s e ∙ nothing_passes (k (KeptElement e)) (element_at s e) h)
    ∙ sym (cond-false (k (KeptElement e)) (value_at s w e) None h))
    (cases_Bool (k (KeptElement e)))
