-- What the rows of components and elements say of their bits.
use Rattle.std.proofs.Common.{◌≡◌, ℕ, suc, ◌+◌, ◌-◌, ◌*◌, ◌^◌, ◌<◌, ◌≤◌, Bool, true, false, cond, not, ◌&&◌, eqb, ltb, leb, [], get_or, ℤ, pos, negsuc, ◌+ℤ◌, Some, sym, refl, ap, subst, ⊎_elim, arith, Err, None, Ok}
use lib.Signed.{le_z}
use mir.Val.{sel}
use Rattle.std.proofs.lemmas.Int.{ints}
use Rattle.std.proofs.lemmas.Bool.{and_parts, leb-true, ltb-true, ltb-false, not_from_true, cases_Bool}
use Rattle.sheet.specs.Entry.{Entry, malformed}
use Rattle.sheet.specs.declared.rows.Component.{Component}
use Rattle.sheet.specs.declared.rows.Element.{Element}
use Rattle.sheet.specs.declared.rows.Kind.{Kind}
use Rattle.sheet.specs.declared.rows.Kind.TheVariants.{Held, Port}
use Rattle.sheet.specs.Lookup.{held, element_at, is}
use Rattle.sheet.specs.Rules.{is_port}
use Rattle.sheet.specs.Sections.{Row, Sheet, rows, elements}
use Rattle.sheet.specs.Typed.{at, number, zeros, component_entry, element_of, element_by_kind, element_entry}
use Rattle.sheet.proofs.Firsts.{no_pass}
use Rattle.sheet.proofs.Meaning.{there_inside}
use Rattle.running.specs.States.{in_range}
use Rattle.running.proofs.StatesKept.{held_if, held_unless_blank, held_either}
use Rattle.image.specs.Bits.{bit_length}
use Rattle.image.specs.Fields.{above, mode_bits, value_bits, value_number}
use Rattle.image.specs.Reading.{value_from}
use Rattle.image.proofs.Lengths.{holds, least}

-- a component has at most 15 modes
pub few_modes : (r : Row) (x : Component) → held (component_entry r) ≡ Some x → x.modes ≤ 15
few_modes r x e =
    let p = held_if (leb 1 (at r 0) && (leb (at r 0) 15 && leb (at r 1) (at r 0))) (record { modes = at r 0; start = at r 1 }) x e in
    let q = and_parts (leb 1 (at r 0)) (leb (at r 0) 15 && leb (at r 1) (at r 0)) p.0 in
    subst (λ (y : Component). y.modes ≤ 15) p.1 (leb-true (at r 0) 15 (and_parts (leb (at r 0) 15) (leb (at r 1) (at r 0)) q.1).0)

-- an element's range has numbers of 16 bits, and its lowest is not above its highest
pub record Ranged (x : Element) : Type 0 where
  pub ordered : le_z x.lowest x.highest ≡ true
  pub least : le_z (negsuc 32767) x.lowest ≡ true
  pub most : le_z x.highest (pos 32767) ≡ true

le_trans : (l v h : ℤ) → le_z l v ≡ true → le_z v h ≡ true → le_z l h ≡ true
le_trans l v h a b = grind (arith, ints)

spans : (l h : ℤ) → le_z l h ≡ true → le_z (negsuc 32767) l ≡ true → le_z h (pos 32767) ≡ true → above l h < 2 ^ 16
spans l h a b c = grind (arith, ints)

gaps : (l v h : ℤ) → le_z l v ≡ true → le_z v h ≡ true → above l v ≤ above l h
gaps l v h a b = grind (arith, ints)

back_up : (l v : ℤ) → le_z l v ≡ true → l +ℤ pos (above l v) ≡ v
back_up l v a = grind (arith, ints)

up_back : (l : ℤ) (n : ℕ) → above l (l +ℤ pos n) ≡ n
up_back l n = omega (arith, ints)

number_ends : (n : ℕ) (b : Bool) → ltb n 32768 ≡ b → (le_z (negsuc 32767) (sel b (pos n) (negsuc (65536 - suc n))) ≡ true) × (le_z (sel b (pos n) (negsuc (65536 - suc n))) (pos 32767) ≡ true)
number_ends n true e = let l = ltb-true n 32768 e in (grind (arith, ints), grind (arith, ints))
number_ends n false e = let l = ltb-false n 32768 e in (grind (arith, ints), grind (arith, ints))

pub element_of_ranged : (k : Kind) (c a b a' b' : ℕ) (v : ℤ) (x : Element) → held (element_of k c (number a b) (number a' b') v) ≡ Some x → Ranged x
element_of_ranged k c a b a' b' v x e =
    let l = number a b in
    let h = number a' b' in
    let p = held_if (le_z l v && le_z v h) (record { kind = k; component = c; lowest = l; highest = h; rest = v }) x e in
    let q = and_parts (le_z l v) (le_z v h) p.0 in
    subst Ranged p.1 (record { ordered = le_trans l v h q.0 q.1; least = (number_ends (a + b * 256) (ltb (a + b * 256) 32768) refl).0; most = (number_ends (a' + b' * 256) (ltb (a' + b' * 256) 32768) refl).1 })

pub element_ranged : (r : Row) (x : Element) → held (element_entry r) ≡ Some x → Ranged x
element_ranged r x e =
    let c = at r 1 in
    let v = number (at r 6) (at r 7) in
    let as_held = element_of Held c (number (at r 2) (at r 3)) (number (at r 4) (at r 5)) v in
    let as_port = element_of Port c (number (at r 2) (at r 3)) (number (at r 4) (at r 5)) v in
    ⊎_elim
    (λ (p : held as_held ≡ Some x). element_of_ranged Held c (at r 2) (at r 3) (at r 4) (at r 5) v x p)
    (λ (p : held (cond (eqb (at r 0) 2) as_port (Err malformed)) ≡ Some x).
    ⊎_elim
    (λ (q : held as_port ≡ Some x). element_of_ranged Port c (at r 2) (at r 3) (at r 4) (at r 5) v x q)
    (λ (q : held {X = Element} (Err malformed) ≡ Some x). no_pass x (sym q))
    (held_either (eqb (at r 0) 2) as_port (Err malformed) x p))
    (held_either (eqb (at r 0) 1) as_held (cond (eqb (at r 0) 2) as_port (Err malformed)) x
    (held_unless_blank (zeros 8 r) (element_by_kind (at r 0) c (number (at r 2) (at r 3)) (number (at r 4) (at r 5)) v) x e))

pub ranged_at : (s : Sheet) (e : ℕ) (x : Element) → element_at s e ≡ Some x → Ranged x
ranged_at s e x h = element_ranged (get_or (rows s elements) e []) x (there_inside element_entry (rows s elements) e x h).1

-- ---- a held element's value as a number

module _ (x : Element) (g : Ranged x) where
  pub span_below : above x.lowest x.highest < 2 ^ 16
  span_below = spans x.lowest x.highest g.ordered g.least g.most

  pub inside_below : (v : ℤ) → in_range x v ≡ true → above x.lowest v ≤ above x.lowest x.highest
  inside_below v i = let p = and_parts (le_z x.lowest v) (le_z v x.highest) i in gaps x.lowest v x.highest p.0 p.1

-- a mode of the component has room in its bits
pub mode_has_room : (r : Row) (x : Component) (m : ℕ) → component_entry r ≡ Ok (Some x) → m ≤ x.modes → m < 2 ^ mode_bits (component_entry r)
mode_has_room r x m e l =
    let few = few_modes r x (ap held e) in
    let room : m < 2 ^ bit_length x.modes = omega (arith, l, few, holds x.modes (omega (arith, few))) in
    rw e room

-- v can stand in the field of an element's row: it has room there, and is read back
pub record Standing (e : Entry Element) (v : ℤ) : Type 0 where
  pub room : value_number e v < 2 ^ value_bits e
  pub back : value_from e (value_number e v) ≡ v

standing_held : (x : Element) (v : ℤ) → Ranged x → in_range x v ≡ true → is_port x ≡ false → Standing (Ok (Some x)) v
standing_held x v g i p =
    let inside = and_parts (le_z x.lowest v) (le_z v x.highest) i in
    let span = above x.lowest x.highest in
    let small = span_below x g in
    let room : above x.lowest v < 2 ^ bit_length span = omega (arith, inside_below x g v i, holds span (omega (arith, small))) in
    record {
      room = rw p room;
      back = rw p (back_up x.lowest v inside.0);
    }

standing_port : (x : Element) (v : ℤ) → is_port x ≡ true → v ≡ pos 0 → Standing (Ok (Some x)) v
standing_port x v p z = record { room = rw p (omega arith); back = rw (p, z) refl }

standing_at : (r : Row) (v : ℤ) (e : Entry Element) → element_entry r ≡ e → ((x : Element) → held e ≡ Some x → is_port x ≡ false → in_range x v ≡ true) → (is (held e) (λ x. not (is_port x)) ≡ false → v ≡ pos 0) → Standing e v
standing_at r v (Ok None) h i z = record { room = omega arith; back = sym (z refl) }
standing_at r v (Err _) h i z = record { room = omega arith; back = sym (z refl) }
standing_at r v (Ok (Some x)) h i z =
    ⊎_elim
    (λ (p : is_port x ≡ true). standing_port x v p (z (not_from_true (is_port x) p)))
    (λ (p : is_port x ≡ false). standing_held x v (element_ranged r x (ap held h)) (i x refl p) p)
    (cases_Bool (is_port x))

-- what a state has for the element can stand there
pub standing : (r : Row) (v : ℤ) → ((x : Element) → held (element_entry r) ≡ Some x → is_port x ≡ false → in_range x v ≡ true) → (is (held (element_entry r)) (λ x. not (is_port x)) ≡ false → v ≡ pos 0) → Standing (element_entry r) v
standing r v i z = standing_at r v (element_entry r) refl i z

-- a value of a held element, by the number that stands for it
pub held_standing : (r : Row) (x : Element) (v : ℤ) → element_entry r ≡ Ok (Some x) → is_port x ≡ false → in_range x v ≡ true → Standing (element_entry r) v × (above x.lowest v ≡ value_number (element_entry r) v)
held_standing r x v h p i = (rw h (standing_held x v (element_ranged r x (ap held h)) i p), rw (h, p) refl)

-- a number with room in the field is that of the value that it stands for
pub number_back : (e : Entry Element) (n : ℕ) → n < 2 ^ value_bits e → value_number e (value_from e n) ≡ n
number_back (Ok None) n l = omega arith
number_back (Err _) n l = omega arith
number_back (Ok (Some x)) n l = by_kind (is_port x) l
  where
    by_kind : (b : Bool) → n < 2 ^ cond b 0 (bit_length (above x.lowest x.highest)) → cond b 0 (above x.lowest (cond b (pos 0) (x.lowest +ℤ pos n))) ≡ n
    by_kind true l = omega arith
    by_kind false l = up_back x.lowest n

-- ---- the most bits

mode_bits_at : (r : Row) (e : Entry Component) → component_entry r ≡ e → mode_bits e ≤ 4
mode_bits_at r (Ok None) h = omega arith
mode_bits_at r (Err _) h = omega arith
mode_bits_at r (Ok (Some x)) h = let few = few_modes r x (ap held h) in least x.modes 4 (omega (arith, few)) (omega (arith, few))

pub mode_bits_few : (r : Row) → mode_bits (component_entry r) ≤ 4
mode_bits_few r = mode_bits_at r (component_entry r) refl

value_bits_at : (r : Row) (e : Entry Element) → element_entry r ≡ e → value_bits e ≤ 16
value_bits_at r (Ok None) h = omega arith
value_bits_at r (Err _) h = omega arith
value_bits_at r (Ok (Some x)) h =
    let small = span_below x (element_ranged r x (ap held h)) in
    elim (is_port x) as (λ b. cond b 0 (bit_length (above x.lowest x.highest)) ≤ 16)
    [ true ↦ omega arith | false ↦ least (above x.lowest x.highest) 16 (omega (arith, small)) small ]

pub value_bits_few : (r : Row) → value_bits (element_entry r) ≤ 16
value_bits_few r = value_bits_at r (element_entry r) refl
