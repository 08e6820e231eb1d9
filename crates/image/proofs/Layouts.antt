-- Numbers side by side.
use Rattle.std.proofs.Common.{◌≡◌, ℕ, zero, suc, ◌+◌, ◌*◌, ◌/◌, ◌%◌, ◌^◌, ◌<◌, ◌≤◌, List, [], ◌∷◌, ◌++◌, length, get_or, set, sym, refl, ap, ◌∙◌, ap₂, suc-le-suc, mod-lt, mul-le-mul_left, div-one, arith, pow_mono}
use Rattle.std.proofs.lemmas.Nat.{pow_pos, pow-add, shr-shr, shr_split, div_below}
use Rattle.std.proofs.lemmas.List.{take_all}
use Rattle.image.specs.Bits.{part, put, number_of, low_bytes, bytes_for}
use Rattle.image.specs.Reading.{total, place, numbers_in, Within}
use Rattle.image.proofs.Parts.{low, high, put_lt}
use Rattle.image.proofs.Bytes.{put_under, put_first, number_bytes}

-- the bit string of some numbers, the first in the lowest bits
abbrev pub join : (widths numbers : List ℕ) → ℕ
join [] vs = 0
join (w ∷ ws) [] = 0
join (w ∷ ws) (v ∷ vs) = v + 2 ^ w * join ws vs

pub length_numbers : (ws : List ℕ) (n : ℕ) → length (numbers_in ws n) ≡ length ws
length_numbers [] n = refl
length_numbers (w ∷ ws) n = ap suc (length_numbers ws (n / 2 ^ w))

pub join_lt : (ws vs : List ℕ) → Within ws vs → join ws vs < 2 ^ total ws
join_lt [] [] h = omega arith
join_lt [] (v ∷ vs) h = elim h [ ]
join_lt (w ∷ ws) [] h = elim h [ ]
join_lt (w ∷ ws) (v ∷ vs) h = omega (arith, h.0, pow-add 2 w (total ws), mul-le-mul_left (2 ^ w) (join_lt ws vs h.1))

-- there and back
pub numbers_join : (ws vs : List ℕ) → Within ws vs → numbers_in ws (join ws vs) ≡ vs
numbers_join [] [] h = refl
numbers_join [] (v ∷ vs) h = elim h [ ]
numbers_join (w ∷ ws) [] h = elim h [ ]
numbers_join (w ∷ ws) (v ∷ vs) h =
    ap₂ (λ x xs. x ∷ xs) (low (2 ^ w) v (join ws vs) h.0) (ap (numbers_in ws) (high (2 ^ w) v (join ws vs) h.0) ∙ numbers_join ws vs h.1)

pub join_numbers : (ws : List ℕ) (n : ℕ) → n < 2 ^ total ws → join ws (numbers_in ws n) ≡ n
join_numbers [] n lt = omega arith
join_numbers (w ∷ ws) n lt =
    let up : n / 2 ^ w < 2 ^ total ws = div_below n (2 ^ w) (2 ^ total ws) (pow_pos w) (omega (arith, pow-add 2 w (total ws))) in
    omega (arith, ap (λ x. 2 ^ w * x) (join_numbers ws (n / 2 ^ w) up), shr_split n w)

pub within_numbers : (ws : List ℕ) (n : ℕ) → Within ws (numbers_in ws n)
within_numbers [] n = tt
within_numbers (w ∷ ws) n = (mod-lt n (pow_pos w), within_numbers ws (n / 2 ^ w))

-- a field read
pub get_or_numbers : (ws : List ℕ) (n i d : ℕ) → i < length ws → get_or (numbers_in ws n) i d ≡ part n (place ws i) (get_or ws i d)
get_or_numbers [] n i d h = absurd (omega arith)
get_or_numbers (w ∷ ws) n zero d h = ap (λ x. x % 2 ^ w) (sym (div-one n))
get_or_numbers (w ∷ ws) n (suc i) d (suc-le-suc h) =
    get_or_numbers ws (n / 2 ^ w) i d h ∙ ap (λ x. x % 2 ^ get_or ws i d) (shr-shr n w (place ws i))

-- a number by its first digit
whole : (n w : ℕ) → n ≡ n % 2 ^ w + 2 ^ w * (n / 2 ^ w)
whole n w = omega (arith, shr_split n w)

-- a field set: the others as they were
pub numbers_put : (ws : List ℕ) (n i d v : ℕ) → i < length ws → v < 2 ^ get_or ws i d → numbers_in ws (put n (place ws i) (get_or ws i d) v) ≡ set (numbers_in ws n) i v
numbers_put [] n i d v h lt = absurd (omega arith)
numbers_put (w ∷ ws) n zero d v h lt =
    ap (numbers_in (w ∷ ws)) (ap (λ x. put x 0 w v) (whole n w) ∙ put_first w (n % 2 ^ w) (n / 2 ^ w) v (mod-lt n (pow_pos w)))
    ∙ ap₂ (λ x y. x ∷ numbers_in ws y) (low (2 ^ w) v (n / 2 ^ w) lt) (high (2 ^ w) v (n / 2 ^ w) lt)
numbers_put (w ∷ ws) n (suc i) d v (suc-le-suc h) lt =
    let q = n / 2 ^ w in
    let new = put q (place ws i) (get_or ws i d) v in
    let small = mod-lt n (pow_pos w) in
    ap (numbers_in (w ∷ ws)) (ap (λ x. put x (w + place ws i) (get_or ws i d) v) (whole n w) ∙ put_under w (n % 2 ^ w) q (place ws i) (get_or ws i d) v small)
    ∙ ap₂ (λ x y. x ∷ numbers_in ws y) (low (2 ^ w) (n % 2 ^ w) new small) (high (2 ^ w) (n % 2 ^ w) new small)
    ∙ ap (λ xs. n % 2 ^ w ∷ xs) (numbers_put ws q i d v h lt)

-- the field ends within all
pub place_le : (ws : List ℕ) (i d : ℕ) → i < length ws → place ws i + get_or ws i d ≤ total ws
place_le [] i d h = absurd (omega arith)
place_le (w ∷ ws) zero d h = omega arith
place_le (w ∷ ws) (suc i) d (suc-le-suc h) = omega (arith, place_le ws i d h)

pub place_more : (ws : List ℕ) (i d : ℕ) → i < length ws → place ws (suc i) ≡ place ws i + get_or ws i d
place_more [] i d h = absurd (omega arith)
place_more (w ∷ ws) zero d h = omega arith
place_more (w ∷ ws) (suc i) d (suc-le-suc h) = omega (arith, place_more ws i d h)

-- nothing beyond the fields
pub put_within : (ws : List ℕ) (n i d v : ℕ) → i < length ws → v < 2 ^ get_or ws i d → n < 2 ^ total ws → put n (place ws i) (get_or ws i d) v < 2 ^ total ws
put_within ws n i d v h lt small = put_lt n (place ws i) (get_or ws i d) v (total ws) lt (place_le ws i d h) small

-- the bytes of a bit string write it
pub number_of_string : (bits n : ℕ) → n < 2 ^ bits → number_of (low_bytes (bytes_for bits) n) ≡ n
number_of_string bits n lt = number_bytes (bytes_for bits) n (omega (arith, lt, pow_mono {i = bits} {j = 8 * bytes_for bits} (omega arith)))

-- all fields together
pub place_all : (ws : List ℕ) (n : ℕ) → length ws ≤ n → place ws n ≡ total ws
place_all ws n l = ap total (take_all n ws l)

pub total_append : (xs ys : List ℕ) → total (xs ++ ys) ≡ total xs + total ys
total_append [] ys = omega arith
total_append (x ∷ xs) ys = omega (arith, total_append xs ys)
