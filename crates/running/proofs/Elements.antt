-- The values of elements: held values, rest values, and what flows give.
use Rattle.std.proofs.Common.{◌≡◌, ℕ, zero, suc, ◌/◌, ◌%◌, ◌^◌, ◌<◌, ◌≤◌, min, Bool, true, false, ◌&&◌, eqb, ◌⊎◌, List, [], ◌∷◌, length, get_or, ℤ, pos, Some, None, Option, sym, refl, ap, ◌∙◌, subst, ⊎_elim, arith}
use lib.Bits.{bit_and, and_step}
use Rattle.std.proofs.lemmas.Nat.{and_shr, shr_le}
use Rattle.std.proofs.lemmas.Bool.{false≢true, true≢false, and_parts, and_from, or_left, or_right, eqb-true, eq-eqb, ne_eqb, not-true, not_from_false, cases_lt, cases_order, cases_Bool, cond-true, cond-false}
use Rattle.sheet.specs.declared.rows.Element.{Element}
use Rattle.sheet.specs.declared.rows.Flow.{Flow}
use Rattle.sheet.specs.declared.rows.Target.TheVariants.{ElementFrom}
use Rattle.sheet.specs.Accept.{accepted}
use Rattle.sheet.specs.Lookup.{held, there, element_at, is}
use Rattle.sheet.specs.Resting.{rests}
use Rattle.sheet.specs.Rules.{is_port, has_modes, value_node, any_below, share_mode, flows_clash}
use Rattle.sheet.specs.Sections.{Row, Sheet, rows, elements, flows}
use Rattle.sheet.specs.Tables.{grow}
use Rattle.sheet.specs.Typed.{element_entry, flow_entry}
use Rattle.sheet.proofs.Firsts.{no_pass}
use Rattle.sheet.proofs.Meaning.{there_inside, keeps_the_rules}
use Rattle.sheet.proofs.Tables.{grow_at, grow_past}
use Rattle.sheet.proofs.Lookups.{is_at, is_from}
use Rattle.running.specs.States.{State, mode_of, held_of}
use Rattle.running.specs.Values.{bring, number_in, node_over, lists, feeds, in_force, port_value, element_value, element_cell, values, value_of, node_value}
use Rattle.running.specs.Laws.{FedBy, ElementLaws, ValuesByLaws}
use Rattle.running.proofs.Finds.{same_found}
use Rattle.running.proofs.Nodes.{node_laws, node_over_same}

-- ---- two flows to one port share no mode

-- a number below n that passes
below_found : (n : ℕ) (p : ℕ → Bool) (i : ℕ) → i < n → p i ≡ true → any_below n p ≡ true
below_found zero p i l h = absurd (omega arith)
below_found (suc n) p i l h =
    ⊎_elim
    (λ (b : i < n). or_left (any_below n p) (p n) (below_found n p i b h))
    (λ (b : n ≤ i). let same : i ≡ n = omega arith in or_right (any_below n p) (p n) (sym (ap p same) ∙ h))
    (cases_lt i n)

-- sets that list one mode share it
listed_shared : (x y m : ℕ) → lists x m ≡ true → lists y m ≡ true → share_mode x y ≡ true
listed_shared x y m h k =
    let a = eqb-true (x / 2 ^ m % 2) 1 h in
    let b = eqb-true (y / 2 ^ m % 2) 1 k in
    let one : min (x / 2 ^ m % 2) (y / 2 ^ m % 2) ≡ 1 = rw (a, b) in
    not_from_false (eqb (bit_and x y) 0) (ne_eqb (bit_and x y) 0 (λ z. omega (arith, z, one, shr_le (bit_and x y) m, and_shr x y m, and_step (x / 2 ^ m) (y / 2 ^ m))))

module _ (s : Sheet) (a : accepted s ≡ true) where
  -- flows to one port that list one mode stand in one row
  no_clash : (i j p m : ℕ) (f g : Flow) → i < j → there flow_entry (rows s flows) i ≡ Some f → there flow_entry (rows s flows) j ≡ Some g → feeds p m (Some f) ≡ true → feeds p m (Some g) ≡ true → ⊥
  no_clash i j p m f g l e d h k =
      let c = ((keeps_the_rules s a).flows_right.passes j g d).clash_free in
      let u = and_parts (eqb f.port p) (lists f.modes m) h in
      let v = and_parts (eqb g.port p) (lists g.modes m) k in
      let clash : flows_clash f g ≡ true = and_from (eqb f.port g.port) (share_mode f.modes g.modes) (eq-eqb f.port g.port (eqb-true f.port p u.0 ∙ sym (eqb-true g.port p v.0))) (listed_shared f.modes g.modes m u.1 v.1) in
      let found = below_found j (λ k. is (there flow_entry (rows s flows) k) (λ y. flows_clash y g)) i l (is_from (there flow_entry (rows s flows) i) (λ y. flows_clash y g) f e clash) in
      true≢false (sym found ∙ not-true (any_below j (λ k. is (there flow_entry (rows s flows) k) (λ y. flows_clash y g))) c)

  same_flow : (i j p m : ℕ) (f g : Flow) → there flow_entry (rows s flows) i ≡ Some f → there flow_entry (rows s flows) j ≡ Some g → feeds p m (Some f) ≡ true → feeds p m (Some g) ≡ true → f ≡ g
  same_flow i j p m f g e d h k =
      ⊎_elim
      (λ (q : i ≡ j). same_found (there flow_entry (rows s flows) j) f g (ap (there flow_entry (rows s flows)) (sym q) ∙ e) d)
      (λ (q : (i < j) ⊎ (j < i)).
      ⊎_elim
      (λ (l : i < j). absurd (no_clash i j p m f g l e d h k))
      (λ (l : j < i). absurd (no_clash j i p m g f l d e k h))
      q)
      (cases_order i j)

-- ---- the flow in force

-- the flow in force feeds the port; where there is none, no row does
abbrev pub InForce : List Row → (port mode : ℕ) → Option Flow → Type 0
InForce rs p m None = (i : ℕ) (f : Flow) → there flow_entry rs i ≡ Some f → feeds p m (Some f) ≡ true → ⊥
InForce rs p m (Some f) = (i : ℕ) × (there flow_entry rs i ≡ Some f) × (feeds p m (Some f) ≡ true)

later_in_force : (r : Row) (rs : List Row) (p m : ℕ) (o : Option Flow) → feeds p m (held (flow_entry r)) ≡ false → InForce rs p m o → InForce (r ∷ rs) p m o
later_in_force r rs p m None n h = none
  where
    none : (i : ℕ) (f : Flow) → there flow_entry (r ∷ rs) i ≡ Some f → feeds p m (Some f) ≡ true → ⊥
    none zero f e k = true≢false (sym k ∙ sym (ap (feeds p m) e) ∙ n)
    none (suc i) f e k = h i f e k
later_in_force r rs p m (Some f) n h = (suc h.0, h.1, h.2)

first_in_force : (r : Row) (rs : List Row) (p m : ℕ) (o : Option Flow) → held (flow_entry r) ≡ o → feeds p m o ≡ true → InForce (r ∷ rs) p m o
first_in_force r rs p m None e h = absurd (false≢true h)
first_in_force r rs p m (Some f) e h = (0, e, h)

pub in_force_is : (rs : List Row) (p m : ℕ) → InForce rs p m (in_force rs p m)
in_force_is [] p m = λ i f e h. no_pass f (sym e)
in_force_is (r ∷ rs) p m =
    ⊎_elim
    (λ (h : feeds p m (held (flow_entry r)) ≡ true). subst (InForce (r ∷ rs) p m) (sym (cond-true (feeds p m (held (flow_entry r))) (held (flow_entry r)) (in_force rs p m) h)) (first_in_force r rs p m (held (flow_entry r)) refl h))
    (λ (h : feeds p m (held (flow_entry r)) ≡ false). subst (InForce (r ∷ rs) p m) (sym (cond-false (feeds p m (held (flow_entry r))) (held (flow_entry r)) (in_force rs p m) h)) (later_in_force r rs p m (in_force rs p m) h (in_force_is rs p m)))
    (cases_Bool (feeds p m (held (flow_entry r))))

module _ (s : Sheet) (w : State) where
  -- what feeds the port, in the words of the law and as a test
  module _ (e : ℕ) (x : Element) (f : Flow) where
    fed_feeds : FedBy s w e x f → feeds e (mode_of w x.component) (Some f) ≡ true
    fed_feeds h = and_from (eqb f.port e) (lists f.modes (mode_of w x.component)) (eq-eqb f.port e h.leads) h.listed

    feeds_fed : (i : ℕ) → there flow_entry (rows s flows) i ≡ Some f → feeds e (mode_of w x.component) (Some f) ≡ true → FedBy s w e x f
    feeds_fed i d h =
        let p = and_parts (eqb f.port e) (lists f.modes (mode_of w x.component)) h in
        record { row = i; stands = d; leads = eqb-true f.port e p.0; listed = p.1 }

  none_in_force : (e : ℕ) (x : Element) (o : Option Flow) → InForce (rows s flows) e (mode_of w x.component) o → ((f : Flow) → FedBy s w e x f → ⊥) → o ≡ None
  none_in_force e x None h n = refl
  none_in_force e x (Some f) h n = absurd (n f (feeds_fed e x f h.0 h.1 h.2))

  fed_in_force : accepted s ≡ true → (e : ℕ) (x : Element) (f : Flow) (o : Option Flow) → InForce (rows s flows) e (mode_of w x.component) o → FedBy s w e x f → o ≡ Some f
  fed_in_force a e x f None h d = absurd (h d.row f d.stands (fed_feeds e x f d))
  fed_in_force a e x f (Some g) h d = ap Some (same_flow s a h.0 d.row e (mode_of w x.component) g f h.1 d.stands h.2 (fed_feeds e x f d))

  -- ---- an element

  abbrev before : ℕ → List ℤ
  before e = grow (element_cell s w) e

  value_at : (e : ℕ) (o : Option Element) → e < length (rows s elements) → element_at s e ≡ o → value_of s w e ≡ element_value s w e (before e) o
  value_at e o l h = grow_at (element_cell s w) (length (rows s elements)) e (pos 0) l ∙ ap (element_value s w e (before e)) h

  there_at : (e : ℕ) (x : Element) → element_at s e ≡ Some x → value_of s w e ≡ element_value s w e (before e) (Some x)
  there_at e x h = value_at e (Some x) (there_inside element_entry (rows s elements) e x h).0 h

  no_element_zero : (e : ℕ) → element_at s e ≡ None → value_of s w e ≡ pos 0
  no_element_zero e h =
      ⊎_elim
      (λ (l : e < length (rows s elements)). value_at e None l h)
      (λ (l : length (rows s elements) ≤ e). grow_past (element_cell s w) (length (rows s elements)) e (pos 0) l)
      (cases_lt e (length (rows s elements)))

  -- a port, by the flow in force
  port_at : (e : ℕ) (x : Element) (o : Option Flow) → element_at s e ≡ Some x → is_port x ≡ true → in_force (rows s flows) e (mode_of w x.component) ≡ o → value_of s w e ≡ port_value x o (λ n. number_in (node_over s w (before e) n))
  port_at e x o h p k =
      there_at e x h
      ∙ cond-true (is_port x) (port_value x (in_force (rows s flows) e (mode_of w x.component)) (λ n. number_in (node_over s w (before e) n))) (held_of w e) p
      ∙ ap (λ o. port_value x o (λ n. number_in (node_over s w (before e) n))) k

  -- the values before an element are those of the whole table
  before_same : (e d : ℕ) → e < length (rows s elements) → d < e → get_or (before e) d (pos 0) ≡ value_of s w d
  before_same e d l b =
      let m : d < length (rows s elements) = omega arith in
      grow_at (element_cell s w) e d (pos 0) b ∙ sym (grow_at (element_cell s w) (length (rows s elements)) d (pos 0) m)

  module _ (a : accepted s ≡ true) where
    -- the node of a flow gives the same over the elements before the flow's port
    flow_node_same : (e i : ℕ) (f : Flow) → e < length (rows s elements) → there flow_entry (rows s flows) i ≡ Some f → f.port ≡ e → node_over s w (before e) f.node ≡ node_value s w f.node
    flow_node_same e i f l h p =
        let r = ((keeps_the_rules s a).flows_right.passes i f h).rests_right in
        node_over_same w (before e) (values s w) e (λ d b. before_same e d l b) s f.node
        (ap (λ k. rests s (ElementFrom k) f.node) (sym p) ∙ not-true (rests s (ElementFrom f.port) f.node) r)

    -- a flow leads to a port
    flow_port : (e i : ℕ) (f : Flow) (x : Element) → there flow_entry (rows s flows) i ≡ Some f → f.port ≡ e → element_at s e ≡ Some x → is_port x ≡ true
    flow_port e i f x h p k =
        let n = ((keeps_the_rules s a).flows_right.passes i f h).names_right in
        let q = and_parts (is (element_at s f.port) (λ y. is_port y && has_modes s y.component f.modes)) (value_node s f.node) n in
        (and_parts (is_port x) (has_modes s x.component f.modes) (is_at (element_at s f.port) (λ y. is_port y && has_modes s y.component f.modes) x (ap (element_at s) p ∙ k) q.0)).0

    pub element_laws : ElementLaws s w
    element_laws =
        record {
          held_value = λ e x h p. there_at e x h ∙ cond-false (is_port x) (port_value x (in_force (rows s flows) e (mode_of w x.component)) (λ n. number_in (node_over s w (before e) n))) (held_of w e) p;
          rest_value = λ e x h p n. port_at e x None h p (none_in_force e x (in_force (rows s flows) e (mode_of w x.component)) (in_force_is (rows s flows) e (mode_of w x.component)) n);
          fed_value = λ e x f h d.
              port_at e x (Some f) h (flow_port e d.row f x d.stands d.leads h) (fed_in_force a e x f (in_force (rows s flows) e (mode_of w x.component)) (in_force_is (rows s flows) e (mode_of w x.component)) d)
              ∙ ap (λ v. bring x.lowest x.highest (number_in v)) (flow_node_same e d.row f (there_inside element_entry (rows s elements) e x h).0 d.stands d.leads);
          no_element = no_element_zero;
        }

pub values_by_laws : ValuesByLaws
values_by_laws s w a = (node_laws s w a, element_laws s w a)
