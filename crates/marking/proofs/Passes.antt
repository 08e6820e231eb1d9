-- The rule of a row applied, and one pass after another.
use Rattle.std.proofs.Common.{◌≡◌, ℕ, zero, suc, ◌<◌, ◌≤◌, Bool, true, false, ◌⊎◌, List, [], ◌∷◌, length, get_or, Some, None, Option, sym, refl, ap, ◌∙◌, inl, inr, ⊎_elim, arith}
use Rattle.std.proofs.lemmas.Bool.{false≢true, both_ways, or_cases, or_left, or_right, cases_lt, cases_Bool, cond-true, cond-false}
use Rattle.std.specs.List.{list_any}
use Rattle.sheet.specs.Lookup.{is}
use Rattle.sheet.specs.Sections.{Sheet}
use Rattle.sheet.proofs.Firsts.{no_pass}
use Rattle.running.specs.Values.{lists}
use Rattle.cutting.specs.declared.kinds.Thing.TheVariants.{Mode as KeptMode}
use Rattle.cutting.specs.Kept.{Chosen}
use Rattle.marking.specs.declared.kinds.Item.{Item}
use Rattle.marking.specs.declared.kinds.Item.TheVariants.{Thing as ThatThing}
use Rattle.marking.specs.declared.kinds.OwnedModes.{OwnedModes}
use Rattle.marking.specs.declared.kinds.Rule.{Rule}
use Rattle.marking.specs.Items.{places, marked, with_mark, Placed, MarksWithin}
use Rattle.marking.specs.Passes.{Needed, Passed}
use Rattle.marking.specs.Rules.{caused, Effect, named, listed, Holds, RulesHold, rule_at, with_mark_of, with_modes, with_items, with_listed, applied}
use Rattle.marking.proofs.Tables.{mark_placed, mark_grows, mark_long, mark_only, stays_marked, placed_mode}

-- From a to b the items of E were marked, as far as they have a place, and no other.
record Adds (E : Item → Type 0) (a b : List Bool) : Type 0 where
  long : length b ≡ length a
  grows : (p : ℕ) → get_or a p false ≡ true → get_or b p false ≡ true
  only : (j : Item → Bool) → ((x : Item) → E x → j x ≡ true) → MarksWithin a j → MarksWithin b j
  has : (x : Item) → E x → Placed x → marked b x ≡ true

adds_none : (a : List Bool) (E : Item → Type 0) → ((x : Item) → E x → ⊥) → Adds E a a
adds_none a E none = record { long = refl; grows = λ p h. h; only = λ j e w. w; has = λ x e l. absurd (none x e) }

adds_join : (E F : Item → Type 0) (a b c : List Bool) → Adds E a b → Adds F b c → Adds (λ x. E x ⊎ F x) a c
adds_join E F a b c p q =
    record {
      long = q.long ∙ p.long;
      grows = λ n h. q.grows n (p.grows n h);
      only = λ j e w. q.only j (λ x f. e x (inr f)) (p.only j (λ x f. e x (inl f)) w);
      has = λ x e l. ⊎_elim (λ (e : E x). stays_marked b c q.grows x (p.has x e l)) (λ (f : F x). q.has x f l) e;
    }

-- the same items, said in another way
adds_as : (E F : Item → Type 0) (a b : List Bool) → ((x : Item) → E x → F x) → ((x : Item) → F x → Placed x → E x) → Adds E a b → Adds F a b
adds_as E F a b to from p =
    record {
      long = p.long;
      grows = p.grows;
      only = λ j e w. p.only j (λ x f. e x (to x f)) w;
      has = λ x f l. p.has x (from x f l) l;
    }

adds_mark : (a : List Bool) → length a ≡ places → (x : Item) → Adds (λ y. x ≡ y) a (with_mark a x)
adds_mark a long x =
    record {
      long = mark_long a x;
      grows = mark_grows a x;
      only = λ j e w. mark_only a x j (e x refl) w;
      has = λ y e l. let here : Placed x = rw e l in ap (marked (with_mark a x)) (sym e) ∙ mark_placed a long x here;
    }

pub some_same : (x y : Item) → ◌≡◌ {A = Option Item} (Some x) (Some y) → x ≡ y
some_same x y e = cc

adds_mark_of : (a : List Bool) → length a ≡ places → (o : Option Item) → Adds (λ x. o ≡ Some x) a (with_mark_of a o)
adds_mark_of a long None = adds_none a (λ x. None ≡ Some x) (λ x e. no_pass x (sym e))
adds_mark_of a long (Some x) = adds_as (λ y. x ≡ y) (λ y. Some x ≡ Some y) a (with_mark a x) (λ y e. ap Some e) (λ y e l. some_same x y e) (adds_mark a long x)

-- the modes of a set below n
abbrev Listed : (c set n : ℕ) → Item → Type 0
Listed c set n x = (m : ℕ) × (m < n) × (lists set m ≡ true) × (x ≡ ThatThing (KeptMode c m))

module _ (a : List Bool) (long : length a ≡ places) (c set : ℕ) where
  listed_more : (n : ℕ) (x : Item) → Listed c set n x ⊎ (ThatThing (KeptMode c n) ≡ x) → lists set n ≡ true → Listed c set (suc n) x
  listed_more n x e h =
      ⊎_elim
      (λ (p : Listed c set n x). (p.0, omega (arith, p.1), p.2, p.3))
      (λ (same : ThatThing (KeptMode c n) ≡ x). (n, omega arith, h, sym same))
      e

  listed_less : (n : ℕ) (x : Item) → Listed c set (suc n) x → Listed c set n x ⊎ (ThatThing (KeptMode c n) ≡ x)
  listed_less n x p =
      ⊎_elim
      (λ (l : p.0 < n). inl (p.0, l, p.2, p.3))
      (λ (l : n ≤ p.0). let same : p.0 ≡ n = omega (arith, p.1) in inr (sym (p.3 ∙ ap (λ m. ThatThing (KeptMode c m)) same)))
      (cases_lt p.0 n)

  unlisted_less : (n : ℕ) (x : Item) → lists set n ≡ false → Listed c set (suc n) x → Listed c set n x
  unlisted_less n x h p =
      ⊎_elim
      (λ (l : p.0 < n). (p.0, l, p.2, p.3))
      (λ (l : n ≤ p.0). let same : p.0 ≡ n = omega (arith, p.1) in absurd (both_ways (lists set n) h (ap (lists set) (sym same) ∙ p.2)))
      (cases_lt p.0 n)

  adds_modes : (n : ℕ) → Adds (Listed c set n) a (with_modes a c set n)
  adds_modes zero = adds_none a (Listed c set 0) (λ x p. absurd (omega (arith, p.1)))
  adds_modes (suc n) =
      let before = adds_modes n in
      let t = with_modes a c set n in
      ⊎_elim
      (λ (h : lists set n ≡ true).
      let joined = adds_join (Listed c set n) (λ x. ThatThing (KeptMode c n) ≡ x) a t (with_mark t (ThatThing (KeptMode c n))) before (adds_mark t (before.long ∙ long) (ThatThing (KeptMode c n))) in
      rw (cond-true (lists set n) (with_mark t (ThatThing (KeptMode c n))) t h)
      (adds_as (λ x. Listed c set n x ⊎ (ThatThing (KeptMode c n) ≡ x)) (Listed c set (suc n)) a (with_mark t (ThatThing (KeptMode c n))) (λ x e. listed_more n x e h) (λ x p l. listed_less n x p) joined))
      (λ (h : lists set n ≡ false).
      rw (cond-false (lists set n) (with_mark t (ThatThing (KeptMode c n))) t h)
      (adds_as (Listed c set n) (Listed c set (suc n)) a t (λ x p. (p.0, omega (arith, p.1), p.2, p.3)) (λ x p l. unlisted_less n x h p) before))
      (cases_Bool (lists set n))

-- ---- the effects of a rule

-- the item is one of a list
abbrev Among : List (Option Item) → Item → Type 0
Among os x = (i : ℕ) × (get_or os i None ≡ Some x)

first_or_later : (o : Option Item) (os : List (Option Item)) (x : Item) (i : ℕ) → get_or (o ∷ os) i None ≡ Some x → (o ≡ Some x) ⊎ Among os x
first_or_later o os x zero e = inl e
first_or_later o os x (suc i) e = inr (i, e)

adds_items : (os : List (Option Item)) (a : List Bool) → length a ≡ places → Adds (Among os) a (with_items a os)
adds_items [] a long = adds_none a (Among []) (λ x p. no_pass x (sym p.1))
adds_items (o ∷ os) a long =
    let t = with_mark_of a o in
    let p = adds_mark_of a long o in
    let q = adds_items os t (p.long ∙ long) in
    adds_as (λ x. (o ≡ Some x) ⊎ Among os x) (Among (o ∷ os)) a (with_items t os)
    (λ x e. ⊎_elim (λ (e : o ≡ Some x). (0, e)) (λ (e : Among os x). (suc e.0, e.1)) e)
    (λ x p l. first_or_later o os x p.0 p.1)
    (adds_join (λ x. o ≡ Some x) (Among os) a t (with_items t os) p q)

-- the modes that a rule lists
abbrev Owned : Option OwnedModes → Item → Type 0
Owned None x = ⊥
Owned (Some o) x = Listed o.component o.modes 16 x

adds_listed : (o : Option OwnedModes) (a : List Bool) → length a ≡ places → Adds (Owned o) a (with_listed a o)
adds_listed None a long = adds_none a (Owned None) (λ x p. p)
adds_listed (Some o) a long = adds_modes a long o.component o.modes 16

module _ (a : List Bool) (long : length a ≡ places) (r : Rule) where
  abbrev All : Item → Type 0
  All x = Among r.effects x ⊎ Owned r.modes x

  owned_effect : (o : Option OwnedModes) (x : Item) → r.modes ≡ o → Owned o x → Effect r x
  owned_effect None x e p = absurd p
  owned_effect (Some o) x e p = rw p.3 (listed {o = o} e p.2)

  all_effects : (x : Item) → All x → Effect r x
  all_effects x e = ⊎_elim (λ (p : Among r.effects x). named p.0 p.1) (λ (p : Owned r.modes x). owned_effect r.modes x refl p) e

  effects_all : (x : Item) → Effect r x → Placed x → All x
  effects_all x (named i e) l = inl (i, e)
  effects_all x (listed {o = o} {m = m} e h) l = inr (rw e (m, (placed_mode o.component m l).high, h, refl))

  adds_effects : Adds (Effect r) a (with_listed (with_items a r.effects) r.modes)
  adds_effects =
      let t = with_items a r.effects in
      let p = adds_items r.effects a long in
      let q = adds_listed r.modes t (p.long ∙ long) in
      adds_as All (Effect r) a (with_listed t r.modes) all_effects effects_all (adds_join (Among r.effects) (Owned r.modes) a t (with_listed t r.modes) p q)

-- ---- causes

module _ (j k : Item → Bool) (w : (x : Item) → j x ≡ true → k x ≡ true) where
  is_more : (o : Option Item) → is o j ≡ true → is o k ≡ true
  is_more None h = absurd (false≢true h)
  is_more (Some x) h = w x h

  some_more : (os : List (Option Item)) → list_any (λ o. is o j) os ≡ true → list_any (λ o. is o k) os ≡ true
  some_more [] h = absurd (false≢true h)
  some_more (o ∷ os) h =
      let rest = list_any (λ o. is o k) os in
      ⊎_elim
      (λ (e : is o j ≡ true). or_left (is o k) rest (is_more o e))
      (λ (e : list_any (λ o. is o j) os ≡ true). or_right (is o k) rest (some_more os e))
      (or_cases (is o j) (list_any (λ o. is o j) os) h)

  caused_more : (r : Rule) → caused j r ≡ true → caused k r ≡ true
  caused_more r h = some_more r.causes h

-- ---- passes

module _ (s : Sheet) where
  pub needed_none : (chosen : Chosen) (a : List Bool) → Needed s chosen a a
  needed_none chosen a = record { long = refl; grows = λ p h. h; within = λ j r w. w }

  pub needed_join : (chosen : Chosen) (a b c : List Bool) → Needed s chosen a b → Needed s chosen b c → Needed s chosen a c
  needed_join chosen a b c p q =
      record {
        long = q.long ∙ p.long;
        grows = λ n h. q.grows n (p.grows n h);
        within = λ j r w. q.within j r (p.within j r w);
      }

  pub passed_none : (seen : ℕ → ℕ → Type 0) (a : List Bool) → ((k i : ℕ) (r : Rule) → seen k i → rule_at s k i ≡ Some r → ⊥) → Passed s seen a a
  passed_none seen a none = record { needed = λ chosen. needed_none chosen a; applies = λ k i r h e. absurd (none k i r h e) }

  -- one pass after another
  pub passed_join : (P Q : ℕ → ℕ → Type 0) (a b c : List Bool) → Passed s P a b → Passed s Q b c → Passed s (λ k i. P k i ⊎ Q k i) a c
  passed_join P Q a b c p q =
      record {
        needed = λ chosen. needed_join chosen a b c (p.needed chosen) (q.needed chosen);
        applies = λ k i r h e.
            ⊎_elim
            (λ (h : P k i). λ caught x f. stays_marked b c (q.needed (λ n. true)).grows x (p.applies k i r h e caught x f))
            (λ (h : Q k i). λ caught x f. q.applies k i r h e (caused_more (marked a) (marked b) (stays_marked a b (p.needed (λ n. true)).grows) r caught) x f)
            h;
      }

  -- what was seen, said in another way
  pub passed_as : (P Q : ℕ → ℕ → Type 0) (a b : List Bool) → ((k i : ℕ) (r : Rule) → Q k i → rule_at s k i ≡ Some r → P k i) → Passed s P a b → Passed s Q a b
  passed_as P Q a b from p = record { needed = p.needed; applies = λ k i r h e. p.applies k i r (from k i r h e) e }

  -- the rule of one row, whose effects have places
  module _ (a : List Bool) (long : length a ≡ places) (r : Rule) where
    rule_needed : ((j : Item → Bool) (chosen : Chosen) → RulesHold s chosen j → Holds r j j) → (chosen : Chosen) → Needed s chosen a (applied a r)
    rule_needed holds chosen =
        let t = with_listed (with_items a r.effects) r.modes in
        let p = adds_effects a long r in
        ⊎_elim
        (λ (h : caused (marked a) r ≡ true).
        rw (cond-true (caused (marked a) r) t a h)
        (record {
          long = p.long;
          grows = p.grows;
          within = λ j rules w. p.only j (holds j chosen rules (caused_more (marked a) j w r h)) w;
        }))
        (λ (h : caused (marked a) r ≡ false). rw (cond-false (caused (marked a) r) t a h) (needed_none chosen a))
        (cases_Bool (caused (marked a) r))

    rule_applies : ((x : Item) → Effect r x → Placed x) → Holds r (marked a) (marked (applied a r))
    rule_applies placed h x f =
        let t = with_listed (with_items a r.effects) r.modes in
        ap (λ t. marked t x) (cond-true (caused (marked a) r) t a h) ∙ (adds_effects a long r).has x f (placed x f)

  same_rule : (o : Option Rule) (r q : Rule) → o ≡ Some r → o ≡ Some q → r ≡ q
  same_rule o r q e f = cc

  pub passed_row : (k i : ℕ) (a : List Bool) → length a ≡ places → (r : Rule) → rule_at s k i ≡ Some r → ((x : Item) → Effect r x → Placed x) → Passed s (λ l n. (l ≡ k) × (n ≡ i)) a (applied a r)
  passed_row k i a long r e placed =
      record {
        needed = rule_needed a long r (λ j chosen rules. rules.by_rows k i r e);
        applies = λ l n q seen f.
            let there : rule_at s k i ≡ Some q = sym (ap (λ l. rule_at s l i) seen.0) ∙ sym (ap (rule_at s l) seen.1) ∙ f in
            let same : r ≡ q = same_rule (rule_at s k i) r q e there in
            rw (sym same) (rule_applies a long r placed);
      }
