-- Tables of marks: one more mark, and tables that grow.
use Rattle.std.proofs.Common.{◌≡◌, ℕ, suc, ◌+◌, ◌*◌, ◌<◌, ◌≤◌, Bool, true, false, cond, not, ◌&&◌, ltb, leb, List, [], ◌∷◌, length, get_or, replicate, is_some, Some, None, Option, sym, refl, ap, ◌∙◌, ⊎_elim, add-one, arith}
use Rattle.std.proofs.lemmas.List.{get_or_past, get_or-replicate, length-replicate, get_or-set_same, get_or-set_other, length-set, set_past}
use Rattle.std.proofs.lemmas.List.Recursion.{is_count_by}
use Rattle.std.proofs.lemmas.Bool.{false≢true, and_parts, ltb-true, leb-true, lt-ltb, le-leb, cases_lt, cases_eq, cond-true, cond-false}
use Rattle.sheet.specs.Lookup.{is}
use Rattle.sheet.proofs.Firsts.{no_pass}
use Rattle.running.specs.Values.{lists}
use Rattle.cutting.specs.declared.kinds.Thing.TheVariants.{Element, Event, Mode}
use Rattle.marking.specs.declared.kinds.Item.{Item}
use Rattle.marking.specs.declared.kinds.Item.TheVariants.{Thing as ThatThing, Node as ThatNode}
use Rattle.marking.specs.Items.{places, place, marked, with_mark_at, with_mark, Placed, MarksWithin}
use Rattle.marking.specs.Passes.{unmarked}
use Rattle.marking.specs.Rules.{with_modes}

-- ---- items that have a place, and which place it is

-- a choice between a place and none that gives a place
placed_by : (b : Bool) (p q : ℕ) → cond b (Some p) None ≡ Some q → (b ≡ true) × (q ≡ p)
placed_by true p q e = (refl, cc)
placed_by false p q e = no_pass q (sym e)

pub record ModeParts (c m : ℕ) : Type 0 where
  pub component : c < 16
  pub low : 1 ≤ m
  pub high : m < 16

mode_parts : (c m : ℕ) → (ltb c 16 && (leb 1 m && ltb m 16)) ≡ true → ModeParts c m
mode_parts c m h =
    let p = and_parts (ltb c 16) (leb 1 m && ltb m 16) h in
    let q = and_parts (leb 1 m) (ltb m 16) p.1 in
    record { component = ltb-true c 16 p.0; low = leb-true 1 m q.0; high = ltb-true m 16 q.1 }

pub element_placed : (e : ℕ) → e < 64 → Placed (ThatThing (Element e))
element_placed e l = rw (lt-ltb e 64 l) refl

pub event_placed : (v : ℕ) → v < 64 → Placed (ThatThing (Event v))
event_placed v l = rw (lt-ltb v 64 l) refl

pub mode_placed : (c m : ℕ) → c < 16 → 1 ≤ m → m < 16 → Placed (ThatThing (Mode c m))
mode_placed c m l low high = rw (lt-ltb c 16 l, le-leb 1 m low, lt-ltb m 16 high) refl

pub node_placed : (n : ℕ) → n < 128 → Placed (ThatNode n)
node_placed n l = rw (lt-ltb n 128 l) refl

-- an item by its place: what is known of an item that has the place p
abbrev Stands : Item → ℕ → Type 0
Stands (ThatThing (Element e)) p = (e < 64) × (p ≡ e)
Stands (ThatThing (Event v)) p = (v < 64) × (p ≡ 64 + v)
Stands (ThatThing (Mode c m)) p = ModeParts c m × (p ≡ 128 + (16 * c + m))
Stands (ThatNode n) p = (n < 128) × (p ≡ 384 + n)

stands : (x : Item) (p : ℕ) → place x ≡ Some p → Stands x p
stands (ThatThing (Element e)) p h = let q = placed_by (ltb e 64) e p h in (ltb-true e 64 q.0, q.1)
stands (ThatThing (Event v)) p h = let q = placed_by (ltb v 64) (64 + v) p h in (ltb-true v 64 q.0, q.1)
stands (ThatThing (Mode c m)) p h = let q = placed_by (ltb c 16 && (leb 1 m && ltb m 16)) (128 + (16 * c + m)) p h in (mode_parts c m q.0, q.1)
stands (ThatNode n) p h = let q = placed_by (ltb n 128) (384 + n) p h in (ltb-true n 128 q.0, q.1)

stands_below : (x : Item) (p : ℕ) → Stands x p → p < places
stands_below (ThatThing (Element e)) p h = omega (arith, h.0, h.1)
stands_below (ThatThing (Event v)) p h = omega (arith, h.0, h.1)
stands_below (ThatThing (Mode c m)) p h = omega (arith, h.0.component, h.0.high, h.1)
stands_below (ThatNode n) p h = omega (arith, h.0, h.1)

-- the place is one of the table
pub place_below : (x : Item) (p : ℕ) → place x ≡ Some p → p < places
place_below x p h = stands_below x p (stands x p h)

there_is : (o : Option ℕ) → is_some o ≡ true → (p : ℕ) × (o ≡ Some p)
there_is None h = absurd (false≢true h)
there_is (Some p) h = (p, refl)

same_mode : (c m d k : ℕ) → ModeParts c m → ModeParts d k → 16 * c + m ≡ 16 * d + k → ThatThing (Mode c m) ≡ ThatThing (Mode d k)
same_mode c m d k p q e =
    let one : c ≡ d = omega arith in
    let two : m ≡ k = omega arith in
    cc

-- two items do not have the same place
one_item : (x y : Item) (p : ℕ) → Stands x p → Stands y p → x ≡ y
one_item (ThatThing (Element e)) (ThatThing (Element d)) p a b = let same : e ≡ d = omega arith in ap (λ e. ThatThing (Element e)) same
one_item (ThatThing (Element e)) (ThatThing (Event v)) p a b = absurd (omega arith)
one_item (ThatThing (Element e)) (ThatThing (Mode c m)) p a b = absurd (omega arith)
one_item (ThatThing (Element e)) (ThatNode n) p a b = absurd (omega arith)
one_item (ThatThing (Event v)) (ThatThing (Element d)) p a b = absurd (omega arith)
one_item (ThatThing (Event v)) (ThatThing (Event w)) p a b = let same : v ≡ w = omega arith in ap (λ v. ThatThing (Event v)) same
one_item (ThatThing (Event v)) (ThatThing (Mode c m)) p a b = absurd (omega arith)
one_item (ThatThing (Event v)) (ThatNode n) p a b = absurd (omega arith)
one_item (ThatThing (Mode c m)) (ThatThing (Element e)) p a b = absurd (omega arith)
one_item (ThatThing (Mode c m)) (ThatThing (Event v)) p a b = absurd (omega arith)
one_item (ThatThing (Mode c m)) (ThatThing (Mode d k)) p a b = same_mode c m d k a.0 b.0 (omega arith)
one_item (ThatThing (Mode c m)) (ThatNode n) p a b = absurd (omega arith)
one_item (ThatNode n) (ThatThing (Element e)) p a b = absurd (omega arith)
one_item (ThatNode n) (ThatThing (Event v)) p a b = absurd (omega arith)
one_item (ThatNode n) (ThatThing (Mode c m)) p a b = absurd (omega arith)
one_item (ThatNode n) (ThatNode o) p a b = let same : n ≡ o = omega arith in ap (λ n. ThatNode n) same

-- what a place says of a mode
pub placed_mode : (c m : ℕ) → Placed (ThatThing (Mode c m)) → ModeParts c m
placed_mode c m l = let f = there_is (place (ThatThing (Mode c m))) l in (stands (ThatThing (Mode c m)) f.0 f.1).0

-- ---- marks of a table that grows

module _ (a b : List Bool) (grows : (p : ℕ) → get_or a p false ≡ true → get_or b p false ≡ true) where
  grown_at : (o : Option ℕ) → is o (λ p. get_or a p false) ≡ true → is o (λ p. get_or b p false) ≡ true
  grown_at None h = absurd (false≢true h)
  grown_at (Some p) h = grows p h

  pub stays_marked : (x : Item) → marked a x ≡ true → marked b x ≡ true
  stays_marked x = grown_at (place x)

-- ---- one mark more, in a table with all places

module _ (table : List Bool) where
  grows_at : (o : Option ℕ) (p : ℕ) → get_or table p false ≡ true → get_or (with_mark_at table o) p false ≡ true
  grows_at None p h = h
  grows_at (Some n) p h =
      ⊎_elim
      (λ (l : n < length table). ⊎_elim (λ (e : p ≡ n). rw e (get_or-set_same table n true false l)) (λ (d : p ≡ n → ⊥). get_or-set_other table n p true false d ∙ h) (cases_eq p n))
      (λ (l : length table ≤ n). ap (λ t. get_or t p false) (set_past table n true l) ∙ h)
      (cases_lt n (length table))

  long_at : (o : Option ℕ) → length (with_mark_at table o) ≡ length table
  long_at None = refl
  long_at (Some n) = length-set table n true

  unmarked_at : (o : Option ℕ) → ((p : ℕ) → o ≡ Some p → get_or table p false ≡ false) → is o (λ p. get_or table p false) ≡ false
  unmarked_at None h = refl
  unmarked_at (Some p) h = h p refl

  pub mark_grows : (x : Item) (p : ℕ) → get_or table p false ≡ true → get_or (with_mark table x) p false ≡ true
  mark_grows x = grows_at (place x)

  pub mark_long : (x : Item) → length (with_mark table x) ≡ length table
  mark_long x = long_at (place x)

  pub mark_placed : length table ≡ places → (x : Item) → Placed x → marked (with_mark table x) x ≡ true
  mark_placed long x l =
      let f = there_is (place x) l in
      rw f.1 (get_or-set_same table f.0 true false (omega (arith, place_below x f.0 f.1)))

  -- only that item is new
  module _ (x : Item) (j : Item → Bool) (h : j x ≡ true) (w : MarksWithin table j) (y : Item) where
    only_at : (o q : Option ℕ) → place x ≡ o → place y ≡ q → is q (λ p. get_or (with_mark_at table o) p false) ≡ true → j y ≡ true
    only_at o None a b e = absurd (false≢true e)
    only_at None (Some p) a b e = w y (rw b e)
    only_at (Some n) (Some p) a b e =
        ⊎_elim
        (λ (same : p ≡ n). ap j (one_item y x p (stands y p b) (rw same (stands x n a))) ∙ h)
        (λ (d : p ≡ n → ⊥). w y (rw b (sym (get_or-set_other table n p true false d) ∙ e)))
        (cases_eq p n)

    pub mark_only : marked (with_mark table x) y ≡ true → j y ≡ true
    mark_only e = only_at (place x) (place y) refl refl e

  -- mode 0 is never marked
  pub no_mode_0 : (c : ℕ) → marked table (ThatThing (Mode c 0)) ≡ false
  no_mode_0 c = unmarked_at (place (ThatThing (Mode c 0))) (λ p e. let low = (stands (ThatThing (Mode c 0)) p e).0.low in absurd (omega arith))

-- in an empty table nothing is marked
pub none_marked : (n : ℕ) (x : Item) → marked (replicate n false) x ≡ false
none_marked n x =
    unmarked_at (replicate n false) (place x) (λ p e.
    ⊎_elim
    (λ (l : p < n). get_or-replicate n p false false l)
    (λ (l : n ≤ p). get_or_past (replicate n false) p false (omega (arith, length-replicate n false)))
    (cases_lt p n))

-- ---- the modes of a set, one after the other

module _ (table : List Bool) (c set n : ℕ) where
  pub modes_listed : lists set n ≡ true → with_mark (with_modes table c set n) (ThatThing (Mode c n)) ≡ with_modes table c set (n + 1)
  modes_listed h = rw add-one (sym (cond-true (lists set n) (with_mark (with_modes table c set n) (ThatThing (Mode c n))) (with_modes table c set n) h))

  pub modes_unlisted : lists set n ≡ false → with_modes table c set n ≡ with_modes table c set (n + 1)
  modes_unlisted h = rw add-one (sym (cond-false (lists set n) (with_mark (with_modes table c set n) (ThatThing (Mode c n))) (with_modes table c set n) h))

-- ---- tables that grow

-- the places that are not marked, one after the other
abbrev left : List Bool → ℕ
left [] = 0
left (b ∷ bs) = cond b 0 1 + left bs

left_more : (b : Bool) (bs : List Bool) → left (b ∷ bs) ≡ cond (not b) (1 + left bs) (left bs)
left_more true bs = omega arith
left_more false bs = refl

left_is : (t : List Bool) → left t ≡ unmarked t
left_is t = is_count_by left not refl left_more t

left_fewer : (a b : List Bool) → length b ≡ length a → ((p : ℕ) → get_or a p false ≡ true → get_or b p false ≡ true) → left b ≤ left a
left_fewer [] [] l g = omega arith
left_fewer [] (y ∷ b) l g = absurd (omega arith)
left_fewer (x ∷ a) [] l g = absurd (omega arith)
left_fewer (true ∷ a) (true ∷ b) l g = let r = left_fewer a b (omega arith) (λ p h. g (suc p) h) in omega arith
left_fewer (true ∷ a) (false ∷ b) l g = absurd (false≢true (g 0 refl))
left_fewer (false ∷ a) (true ∷ b) l g = let r = left_fewer a b (omega arith) (λ p h. g (suc p) h) in omega arith
left_fewer (false ∷ a) (false ∷ b) l g = let r = left_fewer a b (omega arith) (λ p h. g (suc p) h) in omega arith

grown_equal : (a b : List Bool) → length b ≡ length a → ((p : ℕ) → get_or a p false ≡ true → get_or b p false ≡ true) → left a ≤ left b → b ≡ a
grown_equal [] [] l g u = refl
grown_equal [] (y ∷ b) l g u = absurd (omega arith)
grown_equal (x ∷ a) [] l g u = absurd (omega arith)
grown_equal (true ∷ a) (true ∷ b) l g u = ap (λ t. true ∷ t) (grown_equal a b (omega arith) (λ p h. g (suc p) h) (omega arith))
grown_equal (true ∷ a) (false ∷ b) l g u = absurd (false≢true (g 0 refl))
grown_equal (false ∷ a) (true ∷ b) l g u = let r = left_fewer a b (omega arith) (λ p h. g (suc p) h) in absurd (omega arith)
grown_equal (false ∷ a) (false ∷ b) l g u = ap (λ t. false ∷ t) (grown_equal a b (omega arith) (λ p h. g (suc p) h) (omega arith))

-- a table that has grown has no more places that are not marked
pub grown_fewer : (a b : List Bool) → length b ≡ length a → ((p : ℕ) → get_or a p false ≡ true → get_or b p false ≡ true) → unmarked b ≤ unmarked a
grown_fewer a b l g = omega (arith, left_fewer a b l g, left_is a, left_is b)

-- a table that has grown and has as many marks as before is the same
pub grown_same : (a b : List Bool) → length b ≡ length a → ((p : ℕ) → get_or a p false ≡ true → get_or b p false ≡ true) → unmarked a ≤ unmarked b → b ≡ a
grown_same a b l g u = grown_equal a b l g (omega (arith, u, left_is a, left_is b))
