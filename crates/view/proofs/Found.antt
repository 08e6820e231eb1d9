-- What `find_map` answers of the flows by their numbers.
use Rattle.std.proofs.Common.{◌≡◌, ℕ, zero, suc, ◌+◌, ◌<◌, Bool, true, false, cond, List, [], ◌∷◌, length, drop, Option, None, Some, sym, refl, ap, ◌∙◌, subst, arith}
use denote.Param.Members.{Mut}
use Rattle.std.specs.Fn.{Called}
use Rattle.std.specs.Iterator.{AlwaysYields, Yields, DrainsIf, FindsMapped}
use Rattle.std.specs.Iterator.Runs.{Run, YieldsRun, SomeRun, AllItemsGive, IsFirstToGive}
use Rattle.std.specs.List.{FoldsTo, range_with_len, slice_get}
use Rattle.std.specs.Prelude.{MatchOption, IfSome, IsTrue}
use Rattle.std.proofs.lemmas.Iterator.{YieldsList}
use Rattle.std.proofs.lemmas.Option.{none-some}
use Rattle.sheet.specs.declared.rows.Flow.{Flow}
use Rattle.sheet.specs.Lookup.{there}
use Rattle.sheet.specs.Sections.{Row}
use Rattle.sheet.specs.Typed.{flow_entry}
use Rattle.running.specs.Values.{feeds, in_force}
use Rattle.view.proofs.Tables.{first_left, force_none}

module _ {C : Type 0} where
  -- an answer, or else another
  abbrev pub pick : Option C → Option C → Option C
  pick None o = o
  pick (Some y) o = Some y

  -- the first answer that h gives
  abbrev pub first : {B : Type 0} → (B → Option C) → List B → Option C
  first h [] = None
  first h (y ∷ ys) = pick (h y) (first h ys)

module _ {S A B C F : Type 0} (steps : S → Option A → S → Type 0) (v : A → B) (g : Mut F (A × Unit {0}) (Option C)) (h : B → Option C) (f : F) (answers : (x : A) (r : Option C) (q : F) → Called g f (x, tt) r q → (q ≡ f) × (r ≡ h (v x))) where
  -- an answer of h, where the calls before it answered `None`
  found : (xs : List A) (all : List B) (s t u : S) (j : F) (o : Option A) (y : C) → AlwaysYields steps v s all → Yields steps s xs t → FoldsTo (λ p x q. Called g p (x, tt) None q) f xs j → steps t o u → MatchOption o (Some y ≡ None) (λ x. (q : F) × Called g j (x, tt) (Some y) q) → Some y ≡ first h all
  found xs all s t u j None y e k c p d = absurd (none-some y (sym d))
  found [] [] s t u j (Some x) y e k c p d = absurd (e x u (subst (λ k. steps k (Some x) u) (sym k) p))
  found [] (z ∷ all) s t u j (Some x) y e k c p d =
      let here : v x ≡ z = (e.1 x u (subst (λ k. steps k (Some x) u) (sym k) p)).0 in
      let gives : Some y ≡ h z = (answers x (Some y) d.0 (subst (λ k. Called g k (x, tt) (Some y) d.0) (sym c) d.1)).1 ∙ ap h here in
      ap (λ o. pick o (first h all)) gives
  found (x ∷ xs) [] s t u j o y e k c p d = absurd (e x k.0 k.1)
  found (x ∷ xs) (z ∷ all) s t u j (Some w) y e k c p d =
      let here = e.1 x k.0 k.1 in
      let none = answers x None c.0 c.1 in
      found xs all k.0 t u j (Some w) y here.1 k.2 (subst (λ k. FoldsTo (λ p x q. Called g p (x, tt) None q) k xs j) none.0 c.2) p d
      ∙ ap (λ o. pick o (first h all)) (none.1 ∙ ap h here.0)

  -- no answer of h, where the calls answered `None` to each
  none : (xs : List A) (all : List B) (s t u : S) → AlwaysYields steps v s all → Yields steps s xs t → steps t None u → ((k : ℕ) → IfSome (slice_get xs k) (λ x. Called g f (x, tt) None f)) → None ≡ first h all
  none [] [] s t u e k p d = refl
  none [] (z ∷ all) s t u e k p d = absurd (e.0 u (subst (λ k. steps k None u) (sym k) p))
  none (x ∷ xs) [] s t u e k p d = absurd (e x k.0 k.1)
  none (x ∷ xs) (z ∷ all) s t u e k p d =
      let here = e.1 x k.0 k.1 in
      none xs all k.0 t u here.1 k.2 p (λ k. d (suc k))
      ∙ ap (λ o. pick o (first h all)) ((answers x None f (d 0)).1 ∙ ap h here.0)

took : {S A : Type 0} {steps : S → Option A → S → Type 0} (p : Run steps) → DrainsIf steps (p.whole ≡ true) p.from p.items × ((k : ℕ) → p.at k ≡ slice_get p.items k)
took p = unfold YieldsRun in p.gave

-- what `find_map` answers, where the closure computes h
pub first_from_find_map : {S A B C F : Type 0} {steps : S → Option A → S → Type 0} {v : A → B} {g : Mut F (A × Unit {0}) (Option C)} {s : S} {all : List B} (h : B → Option C) (u : S) (f : F) (r : Option C) → FindsMapped steps g s f r u → SomeRun steps s (λ p. MatchOption r (IsTrue p.whole × AllItemsGive p g f None) (λ y. (i : ℕ) × (i < p.len) × (p.len ≡ i + 1) × IsFirstToGive p g f (Some y) None i)) → YieldsList steps v s all → ((x : A) (r : Option C) (q : F) → Called g f (x, tt) r q → (q ≡ f) × (r ≡ h (v x))) → r ≡ first h all
first_from_find_map {steps = steps} {v} {g} {s} {all} h u f (Some y) d q e answers = found steps v g h f answers d.0 all s d.3.0 u d.2 d.1 y e.runs d.3.1 d.4 d.3.2 d.5
first_from_find_map {steps = steps} {v} {g} {s} {all} h u f None d q e answers =
    let p = q.0 in
    let t = took p in
    let end = t.0.2 q.2.0 in
    none steps v g h f answers p.items all s t.0.0 end.0 e.runs (subst (λ k. Yields steps k p.items t.0.0) q.1 t.0.1) end.1 (λ k. subst (λ o. IfSome o (λ x. Called g f (x, tt) None f)) (t.1 k) (q.2.1 (λ a r f' c. (answers a.0 r f' c).0) k))

module _ (rs : List Row) (p m : ℕ) where
  -- row i, where it leads to port p in mode m
  abbrev pub kept : ℕ → Option Flow
  kept i = cond (feeds p m (there flow_entry rs i)) (there flow_entry rs i) None

  by_test : (b : Bool) (x : Flow) (o : Option Flow) → pick (cond b (Some x) None) o ≡ cond b (Some x) o
  by_test true x o = refl
  by_test false x o = refl

  pick_kept : (f o : Option Flow) → pick (cond (feeds p m f) f None) o ≡ cond (feeds p m f) f o
  pick_kept None o = refl
  pick_kept (Some x) o = by_test (feeds p m (Some x)) x o

  first_kept : (n i : ℕ) → i + n ≡ length rs → first kept (range_with_len i n) ≡ in_force (drop i rs) p m
  first_kept zero i e = sym (force_none rs p m i (omega (arith, e)))
  first_kept (suc n) i e =
      ap (pick (kept i)) (first_kept n (i + 1) (omega (arith, e)))
      ∙ pick_kept (there flow_entry rs i) (in_force (drop (i + 1) rs) p m)
      ∙ sym (first_left rs p m i (omega (arith, e)))

  pub first_in_force : (n : ℕ) → n ≡ length rs → first kept (range_with_len 0 n) ≡ in_force rs p m
  first_in_force n e = first_kept n 0 (omega (arith, e))
