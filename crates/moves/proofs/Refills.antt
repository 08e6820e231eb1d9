-- Tables that are filled or changed place by place.
use Rattle.std.proofs.Common.{◌≡◌, ℕ, ◌+◌, ◌<◌, ◌≤◌, Bool, true, false, cond, List, [], ◌∷◌, length, get_or, drop, set, ℤ, Some, None, Option, sym, refl, ap, ◌∙◌, ⊎_elim, arith}
use Rattle.std.proofs.lemmas.List.{length-set, get_or-set_same, get_or-set_other, ext_get_or, at_drop_more, drop_all}
use Rattle.std.proofs.lemmas.Option.{slice_get-get_or}
use Rattle.std.proofs.lemmas.Bool.{cases_lt}
use Rattle.sheet.specs.declared.rows.Setting.{Setting}
use Rattle.sheet.specs.declared.rows.Element.{Element}
use Rattle.sheet.specs.Lookup.{held, read_by, there, element_at}
use Rattle.sheet.specs.Sections.{Row, Sheet}
use Rattle.sheet.specs.Typed.{setting_entry}
use Rattle.running.specs.declared.kinds.Worth.{Worth}
use Rattle.running.specs.States.{State}
use Rattle.running.specs.Steps.{takes_part, set_value, set_by, settled}
use Rattle.running.specs.Values.{bring, number_in, nothing, node_value}
use Rattle.view.specs.Checks.{new_value, change_by, changed}
use Rattle.moves.specs.Settle.{settled_by}

-- A table that is filled place by place: the first i places are as in one list, and the others as in another.
pub record Refilled {Y : Type 0} (xs ys was : List Y) (d : Y) (n i : ℕ) : Type 0 where
  pub long : length xs ≡ n
  pub other_long : length ys ≡ n
  pub same : (k : ℕ) → k < i → get_or xs k d ≡ get_or ys k d
  pub rest : (k : ℕ) → i ≤ k → get_or xs k d ≡ get_or was k d

pub refilled_none : {Y : Type 0} (xs ys : List Y) (d : Y) (n : ℕ) → length xs ≡ n → length ys ≡ n → Refilled xs ys xs d n 0
refilled_none xs ys d n e f = record { long = e; other_long = f; same = λ k l. absurd (omega arith); rest = λ k l. refl }

module _ {Y : Type 0} (xs ys was : List Y) (d : Y) (n i : ℕ) (f : Refilled xs ys was d n i) where
  -- one place more is filled
  pub refilled_more : (y : Y) → i < n → y ≡ get_or ys i d → Refilled (set xs i y) ys was d n (i + 1)
  refilled_more y l e =
      record {
        long = length-set xs i y ∙ f.long;
        other_long = f.other_long;
        same = λ k b.
            ⊎_elim
            (λ (below : k < i). get_or-set_other xs i k y d (λ h. absurd (omega arith)) ∙ f.same k below)
            (λ (up : i ≤ k). let here : k ≡ i = omega arith in rw here (get_or-set_same xs i y d (omega (arith, f.long)) ∙ e))
            (cases_lt k i);
        rest = λ k b. get_or-set_other xs i k y d (λ h. absurd (omega arith)) ∙ f.rest k (omega arith);
      }

  -- one place more is right as it is
  pub refilled_kept : get_or was i d ≡ get_or ys i d → Refilled xs ys was d n (i + 1)
  refilled_kept e =
      record {
        long = f.long;
        other_long = f.other_long;
        same = λ k b.
            ⊎_elim
            (λ (below : k < i). f.same k below)
            (λ (up : i ≤ k). let here : k ≡ i = omega arith in rw here (f.rest i (omega arith) ∙ e))
            (cases_lt k i);
        rest = λ k b. f.rest k (omega arith);
      }

  pub refilled_all : n ≤ i → xs ≡ ys
  refilled_all l = ext_get_or d xs ys (f.long ∙ sym f.other_long) (λ k b. f.same k (omega (arith, f.long)))

-- ---- settings row by row

module _ (s : Sheet) (t : List Worth) (ts : List ℕ) (rs : List Row) (i : ℕ) (vs : List ℤ) where
  -- one row more
  pub settled_more : (p : Option (ℕ × ℤ)) → i < length rs → p ≡ change_by s t ts (there setting_entry rs i) → settled_by s t ts (drop (i + 1) rs) (changed p vs) ≡ settled_by s t ts (drop i rs) vs
  settled_more p l e =
      sym (at_drop_more (λ rs. settled_by s t ts rs vs) rs i [] l
      ∙ ap (λ q. settled_by s t ts (drop (i + 1) rs) (changed q vs)) (sym (e ∙ ap (λ o. change_by s t ts o) (ap (read_by setting_entry) (slice_get-get_or rs i [] l)))))

  pub settled_end : length rs ≤ i → settled_by s t ts (drop i rs) vs ≡ vs
  settled_end l = ap (λ rs. settled_by s t ts rs vs) (drop_all i rs l)

-- ---- by what the nodes give in a state

module _ (s : Sheet) (w : State) (t : List Worth) (ts : List ℕ) (table : (n : ℕ) → get_or t n nothing ≡ node_value s w n) where
  new_is : (x : Setting) (e : Option Element) (vs : List ℤ) → changed (new_value t x e) vs ≡ set_value s w x e vs
  new_is x None vs = refl
  new_is x (Some e) vs = ap (λ v. set vs x.element (bring e.lowest e.highest (number_in v))) (table x.node)

  part_is : (b : Bool) (x : Setting) (vs : List ℤ) → changed (cond b (new_value t x (element_at s x.element)) None) vs ≡ cond b (set_value s w x (element_at s x.element) vs) vs
  part_is true x vs = new_is x (element_at s x.element) vs
  part_is false x vs = refl

  change_is : (o : Option Setting) (vs : List ℤ) → changed (change_by s t ts o) vs ≡ set_by s w ts o vs
  change_is None vs = refl
  change_is (Some x) vs = part_is (takes_part x.transition ts) x vs

  pub settled_is : (rs : List Row) (vs : List ℤ) → settled_by s t ts rs vs ≡ settled s w ts rs vs
  settled_is [] vs = refl
  settled_is (r ∷ rs) vs = ap (settled_by s t ts rs) (change_is (held (setting_entry r)) vs) ∙ settled_is rs (set_by s w ts (held (setting_entry r)) vs)
