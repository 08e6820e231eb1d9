-- Parts of a number and what putting one does.
use Rattle.std.proofs.Common.{◌≡◌, ℕ, ◌+◌, ◌-◌, ◌*◌, ◌/◌, ◌%◌, ◌^◌, ◌<◌, ◌≤◌, sym, ap, ◌∙◌, subst, le_refl, mul-le-mul_right, mod-lt, mod-eq_of_lt, add_comm, zero-add, div-one, arith}
use native.Mathlib.Nat.{div-eq_of_lt, add-mul-div_left, add-mul-mod_self_left}
use lib.Pow.{mod-mod-pow}
use Rattle.std.proofs.lemmas.Nat.{pow_pos, pow-add, shr-shr, mod-pow-add, field_of, shr_split}
use Rattle.image.specs.Bits.{part, put}

-- a digit and the rest
pub low : (p l h : ℕ) → l < p → (l + p * h) % p ≡ l
low p l h lt = add-mul-mod_self_left l p h ∙ mod-eq_of_lt lt

pub high : (p l h : ℕ) → l < p → (l + p * h) / p ≡ h
high p l h lt = let pos : 0 < p = omega arith in add-mul-div_left l h pos ∙ omega (arith, div-eq_of_lt lt)

pub part_lt : (n at w : ℕ) → part n at w < 2 ^ w
part_lt n at w = mod-lt (n / 2 ^ at) (pow_pos w)

-- the part is there to be taken away
pub part_le : (n at w : ℕ) → part n at w * 2 ^ at ≤ n
part_le n at w =
    let q = n / 2 ^ at in
    let e = shr_split n at in
    let f = shr_split q w in
    let g : part n at w ≤ q = omega arith in
    omega (arith, mul-le-mul_right (2 ^ at) g)

pub put_is : (n at w v : ℕ) → put n at w v + part n at w * 2 ^ at ≡ n + v * 2 ^ at
put_is n at w v = omega (arith, part_le n at w)

-- a part of a part
pub part_in : (n a w o u : ℕ) → o + u ≤ w → part (part n a w) o u ≡ part n (a + o) u
part_in n a w o u h =
    let q = n / 2 ^ a in
    let e : w ≡ ((w - o - u) + u) + o = omega arith in
    let P : ℕ → Type 0 = λ x. q % 2 ^ x / 2 ^ o % 2 ^ u ≡ n / 2 ^ (a + o) % 2 ^ u in
    subst P (sym e)
    (ap (λ x. x % 2 ^ u) (field_of q ((w - o - u) + u) o) ∙ mod-mod-pow (q / 2 ^ o) (w - o - u) u ∙ ap (λ x. x % 2 ^ u) (shr-shr n a o))

-- a part, then the bits above it
pub part_more : (n a w u : ℕ) → part n a (w + u) ≡ part n a w + 2 ^ w * part n (a + w) u
part_more n a w u =
    ap (λ x. n / 2 ^ a % 2 ^ x) (add_comm w u)
    ∙ mod-pow-add (n / 2 ^ a) u w
    ∙ ap (λ x. x % 2 ^ u * 2 ^ w + n / 2 ^ a % 2 ^ w) (shr-shr n a w)
    ∙ omega arith

-- putting a part of a part
pub put_in : (n a w o u v : ℕ) → o + u ≤ w → put n a w (put (part n a w) o u v) ≡ put n (a + o) u v
put_in n a w o u v h =
    let i = part_in n a w o u h in
    let inner = put_is (part n a w) o u v in
    let outer = put_is n a w (put (part n a w) o u v) in
    let whole = put_is n (a + o) u v in
    let p = pow-add 2 a o in
    omega (arith, ap (λ x. x * 2 ^ a) inner, ap (λ x. v * x) p, ap (λ x. part n (a + o) u * x) p, ap (λ x. x * 2 ^ o * 2 ^ a) i)

-- what is put is there: the number in three digits
pub put_digits : (n at w v : ℕ) → put n at w v ≡ n % 2 ^ at + 2 ^ at * (v + 2 ^ w * (n / 2 ^ at / 2 ^ w))
put_digits n at w v =
    let q = n / 2 ^ at in
    omega (arith, put_is n at w v, shr_split n at, ap (λ x. x * 2 ^ at) (shr_split q w))

pub part_put : (n at w v : ℕ) → v < 2 ^ w → part (put n at w v) at w ≡ v
part_put n at w v lt =
    ap (λ x. x / 2 ^ at % 2 ^ w) (put_digits n at w v)
    ∙ ap (λ x. x % 2 ^ w) (high (2 ^ at) (n % 2 ^ at) (v + 2 ^ w * (n / 2 ^ at / 2 ^ w)) (mod-lt n (pow_pos at)))
    ∙ low (2 ^ w) v (n / 2 ^ at / 2 ^ w) lt

-- the bits above stay
pub above_put : (n at w v : ℕ) → v < 2 ^ w → put n at w v / 2 ^ (at + w) ≡ n / 2 ^ (at + w)
above_put n at w v lt =
    sym (shr-shr (put n at w v) at w)
    ∙ ap (λ x. x / 2 ^ at / 2 ^ w) (put_digits n at w v)
    ∙ ap (λ x. x / 2 ^ w) (high (2 ^ at) (n % 2 ^ at) (v + 2 ^ w * (n / 2 ^ at / 2 ^ w)) (mod-lt n (pow_pos at)))
    ∙ high (2 ^ w) v (n / 2 ^ at / 2 ^ w) lt
    ∙ shr-shr n at w

-- the bits below stay
pub below_put : (n at w v : ℕ) → put n at w v % 2 ^ at ≡ n % 2 ^ at
below_put n at w v =
    ap (λ x. x % 2 ^ at) (put_digits n at w v)
    ∙ low (2 ^ at) (n % 2 ^ at) (v + 2 ^ w * (n / 2 ^ at / 2 ^ w)) (mod-lt n (pow_pos at))

-- a part that ends where the change begins, or begins where it ends, stays
pub part_put_above : (n at w v o u : ℕ) → v < 2 ^ w → at + w ≤ o → part (put n at w v) o u ≡ part n o u
part_put_above n at w v o u lt h =
    let e : o ≡ at + w + (o - (at + w)) = omega arith in
    let P : ℕ → Type 0 = λ x. put n at w v / 2 ^ x % 2 ^ u ≡ n / 2 ^ x % 2 ^ u in
    subst P (sym e)
    (ap (λ x. x % 2 ^ u)
    (sym (shr-shr (put n at w v) (at + w) (o - (at + w))) ∙ ap (λ x. x / 2 ^ (o - (at + w))) (above_put n at w v lt) ∙ shr-shr n (at + w) (o - (at + w))))

pub part_below : (n at o u : ℕ) → o + u ≤ at → part (n % 2 ^ at) o u ≡ part n o u
part_below n at o u h =
    ap (λ x. x / 2 ^ o % 2 ^ u) (sym zero_part) ∙ part_in n 0 at o u h ∙ ap (λ x. n / 2 ^ x % 2 ^ u) (zero-add o)
  where
    zero_part : part n 0 at ≡ n % 2 ^ at
    zero_part = ap (λ x. x % 2 ^ at) (div-one n)

pub part_put_below : (n at w v o u : ℕ) → o + u ≤ at → part (put n at w v) o u ≡ part n o u
part_put_below n at w v o u h =
    sym (part_below (put n at w v) at o u h) ∙ ap (λ x. part x o u) (below_put n at w v) ∙ part_below n at o u h

-- two puts side by side are one
pub put_more : (n a w u v x : ℕ) → v < 2 ^ w → put (put n a w v) (a + w) u x ≡ put n a (w + u) (v + 2 ^ w * x)
put_more n a w u v x lt =
    let p = pow-add 2 a w in
    let s = part_put_above n a w v (a + w) u lt (le_refl (a + w)) in
    let m = part_more n a w u in
    omega (
      arith,
      put_is n a w v,
      put_is (put n a w v) (a + w) u x,
      put_is n a (w + u) (v + 2 ^ w * x),
      ap (λ y. y * 2 ^ a) m,
      ap (λ y. y * 2 ^ (a + w)) s,
      ap (λ y. x * y) p,
      ap (λ y. part n (a + w) u * y) p,
    )

-- the number grows no longer
pub put_lt : (n at w v m : ℕ) → v < 2 ^ w → at + w ≤ m → n < 2 ^ m → put n at w v < 2 ^ m
put_lt n at w v m lt h small =
    let k = m - (at + w) in
    let e : m ≡ at + w + k = omega arith in
    let up : put n at w v / 2 ^ m ≡ 0 =
    ap (λ x. put n at w v / 2 ^ x) e ∙ sym (shr-shr (put n at w v) (at + w) k) ∙ ap (λ x. x / 2 ^ k) (above_put n at w v lt)
    ∙ shr-shr n (at + w) k ∙ ap (λ x. n / 2 ^ x) (sym e) ∙ div-eq_of_lt small in
    let s = shr_split (put n at w v) m in
    omega (arith, ap (λ x. x * 2 ^ m) up, mod-lt (put n at w v) (pow_pos m))

-- above all that is there
pub put_new : (n at w v : ℕ) → n < 2 ^ at → put n at w v ≡ n + v * 2 ^ at
put_new n at w v small =
    let z : part n at w ≡ 0 = ap (λ x. x % 2 ^ w) (div-eq_of_lt small) ∙ mod-eq_of_lt (pow_pos w) in
    omega (arith, put_is n at w v, ap (λ x. x * 2 ^ at) z)

-- no bits, none changed
pub put_none : (n at : ℕ) → put n at 0 0 ≡ n
put_none n at = let z : part n at 0 ≡ 0 = omega arith in omega (arith, put_is n at 0 0, ap (λ x. x * 2 ^ at) z)

-- from the lowest bit on
pub part_front : (v i u : ℕ) → part v 0 (i + u) ≡ part v 0 i + 2 ^ i * part v i u
part_front v i u = part_more v 0 i u ∙ ap (λ x. part v 0 i + 2 ^ i * part v x u) (zero-add i)

pub part_whole : (v w : ℕ) → v < 2 ^ w → part v 0 w ≡ v
part_whole v w lt = ap (λ x. x % 2 ^ w) (div-one v) ∙ mod-eq_of_lt lt
