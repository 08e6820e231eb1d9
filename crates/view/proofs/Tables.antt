-- The tables of values.
use Rattle.std.proofs.Common.{◌≡◌, ℕ, ◌+◌, ◌^◌, ◌<◌, ◌≤◌, true, false, cond, List, [], length, get_or, take, drop, set, ℤ, None, sym, ap, ◌∙◌, ⊎_elim, arith, pow_mono}
use native.Mathlib.Nat.{div-eq_of_lt}
use Rattle.std.proofs.lemmas.List.{length-set, take_more_set, take_all, get_or_past, at_drop_more, drop_all}
use Rattle.std.proofs.lemmas.Option.{slice_get-get_or}
use Rattle.std.proofs.lemmas.Bool.{cases_lt}
use Rattle.sheet.specs.Accept.{accepted}
use Rattle.sheet.specs.Lookup.{held, read_by, there}
use Rattle.sheet.specs.Sections.{Row, Sheet, rows, nodes, elements}
use Rattle.sheet.specs.Tables.{grow}
use Rattle.sheet.specs.Typed.{flow_entry, node_entry}
use Rattle.sheet.proofs.Lookups.{there_past}
use Rattle.sheet.proofs.Shapes.{sized}
use Rattle.sheet.proofs.Tables.{length_grow, grow_at, grow_more, take_grow}
use Rattle.running.specs.declared.kinds.Worth.{Worth}
use Rattle.running.specs.States.{State}
use Rattle.running.specs.Values.{lists, nothing, feeds, in_force, node_cell, node_over, element_cell, values, evaluated_if}

-- a set of 16 bits lists no mode above 15
pub lists_none_above : (x m : ℕ) → x < 2 ^ 16 → 16 ≤ m → lists x m ≡ false
lists_none_above x m small l = let below : x < 2 ^ m = omega (arith, small, pow_mono l) in rw (div-eq_of_lt below)

-- a table filled from its front: the first i slots are cells
pub record Filled {X : Type 0} (f : ℕ → List X → X) (table : List X) (n i : ℕ) : Type 0 where
  pub long : length table ≡ n
  pub cells : take i table ≡ grow f i

module _ {X : Type 0} (f : ℕ → List X → X) (table : List X) (n i : ℕ) (t : Filled f table n i) where
  pub filled_more : (x : X) → i < n → x ≡ f i (take i table) → Filled f (set table i x) n (i + 1)
  filled_more x l e =
      let inside : i < length table = omega (arith, t.long) in
      record {
        long = length-set table i x ∙ t.long;
        cells = take_more_set table i x inside ∙ grow_more f i (take i table) x t.cells e;
      }

  pub filled_all : n ≤ i → table ≡ grow f i
  filled_all l = sym (take_all i table (omega (arith, t.long))) ∙ t.cells

-- past the nodes there is nothing
pub node_table : (s : Sheet) (w : State) (vs : List ℤ) (table : List Worth) → accepted s ≡ true → table ≡ grow (node_cell s w vs) 128 → (n : ℕ) → get_or table n nothing ≡ node_over s w vs n
node_table s w vs table a e n =
    ap (λ t. get_or t n nothing) e ∙
    ⊎_elim
    (λ (l : n < 128). grow_at (node_cell s w vs) 128 n nothing l)
    (λ (l : 128 ≤ n).
    let f = node_cell s w vs in
    let few = (sized s nodes a (omega arith)).few in
    get_or_past (grow f 128) n nothing (omega (arith, length_grow f 128)) ∙ sym (ap (evaluated_if w vs (grow f n)) (there_past node_entry (rows s nodes) n (omega arith))))
    (cases_lt n 128)

-- ---- the flow in force, row by row

-- what a row of the flows holds
there_held : (rs : List Row) (i : ℕ) → i < length rs → there flow_entry rs i ≡ held (flow_entry (get_or rs i []))
there_held rs i l = ap (read_by flow_entry) (slice_get-get_or rs i [] l)

-- the first that is left to see, and the others
pub first_left : (rs : List Row) (p m i : ℕ) → i < length rs → in_force (drop i rs) p m ≡ cond (feeds p m (there flow_entry rs i)) (there flow_entry rs i) (in_force (drop (i + 1) rs) p m)
first_left rs p m i l =
    at_drop_more (λ rs. in_force rs p m) rs i [] l
    ∙ ap (λ o. cond (feeds p m o) o (in_force (drop (i + 1) rs) p m)) (sym (there_held rs i l))

pub force_none : (rs : List Row) (p m i : ℕ) → length rs ≤ i → in_force (drop i rs) p m ≡ None
force_none rs p m i l = ap (λ rs. in_force rs p m) (drop_all i rs l)

-- ---- the values of the elements

pub values_taken : (s : Sheet) (w : State) (table : List ℤ) → accepted s ≡ true → table ≡ grow (element_cell s w) 64 → take (length (rows s elements)) table ≡ values s w
values_taken s w table a e = ap (take (length (rows s elements))) e ∙ take_grow (element_cell s w) 64 (length (rows s elements)) (sized s elements a (omega arith)).within
