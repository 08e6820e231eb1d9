-- Bytes and the number that they write.
use Rattle.std.proofs.Common.{◌≡◌, ℕ, zero, suc, ◌+◌, ◌*◌, ◌/◌, ◌%◌, ◌^◌, ◌<◌, ◌≤◌, List, [], ◌∷◌, length, get_or, take, set, replicate, sym, refl, ap, ◌∙◌, ap₂, suc-le-suc, mod-lt, mod-eq_of_lt, add_comm, mul-suc, div-one, arith}
use native.Mathlib.Nat.{zero-div}
use Rattle.std.proofs.lemmas.Nat.{pow_pos, pow-add, shr-shr, div_below}
use Rattle.image.specs.Bits.{number_of, low_bytes, part, put}
use Rattle.image.proofs.Parts.{low, high, put_is}

-- past a first digit
pub part_under : (w l n o u : ℕ) → l < 2 ^ w → part (l + 2 ^ w * n) (w + o) u ≡ part n o u
part_under w l n o u lt = ap (λ x. x % 2 ^ u) (sym (shr-shr (l + 2 ^ w * n) w o) ∙ ap (λ x. x / 2 ^ o) (high (2 ^ w) l n lt))

pub put_under : (w l n o u v : ℕ) → l < 2 ^ w → put (l + 2 ^ w * n) (w + o) u v ≡ l + 2 ^ w * put n o u v
put_under w l n o u v lt =
    let p = pow-add 2 w o in
    let s = part_under w l n o u lt in
    omega (arith, put_is (l + 2 ^ w * n) (w + o) u v, ap (λ x. 2 ^ w * x) (put_is n o u v), ap (λ x. x * 2 ^ (w + o)) s, ap (λ x. part n o u * x) p, ap (λ x. v * x) p)

-- at the first digit
pub part_first : (w l n : ℕ) → l < 2 ^ w → part (l + 2 ^ w * n) 0 w ≡ l
part_first w l n lt = ap (λ x. x % 2 ^ w) (div-one (l + 2 ^ w * n)) ∙ low (2 ^ w) l n lt

pub put_first : (w l n v : ℕ) → l < 2 ^ w → put (l + 2 ^ w * n) 0 w v ≡ v + 2 ^ w * n
put_first w l n v lt = omega (arith, put_is (l + 2 ^ w * n) 0 w v, part_first w l n lt)

byte_lt : (b : ℕ) → b % 256 < 2 ^ 8
byte_lt b = mod-lt b (pow_pos 8)

pub byte_part : (bs : List ℕ) (j : ℕ) → part (number_of bs) (8 * j) 8 ≡ get_or bs j 0 % 256
byte_part [] j = ap (λ x. x % 256) (zero-div (2 ^ (8 * j)))
byte_part (b ∷ bs) zero = part_first 8 (b % 256) (number_of bs) (byte_lt b)
byte_part (b ∷ bs) (suc j) =
    ap (λ x. part (number_of (b ∷ bs)) x 8) (mul-suc 8 j ∙ add_comm (8 * j) 8) ∙ part_under 8 (b % 256) (number_of bs) (8 * j) 8 (byte_lt b) ∙ byte_part bs j

pub number_set : (bs : List ℕ) (j v : ℕ) → j < length bs → number_of (set bs j v) ≡ put (number_of bs) (8 * j) 8 (v % 256)
number_set [] j v h = absurd (omega arith)
number_set (b ∷ bs) zero v h = sym (put_first 8 (b % 256) (number_of bs) (v % 256) (byte_lt b))
number_set (b ∷ bs) (suc j) v (suc-le-suc h) =
    ap (λ x. b % 256 + 256 * x) (number_set bs j v h)
    ∙ sym (put_under 8 (b % 256) (number_of bs) (8 * j) 8 (v % 256) (byte_lt b))
    ∙ ap (λ x. put (number_of (b ∷ bs)) x 8 (v % 256)) (add_comm 8 (8 * j) ∙ sym (mul-suc 8 j))

pub number_zeros : (n : ℕ) → number_of (replicate n 0) ≡ 0
number_zeros zero = refl
number_zeros (suc n) = omega (arith, number_zeros n)

-- how many bytes there are
pub length_bytes : (k n : ℕ) → length (low_bytes k n) ≡ k
length_bytes zero n = refl
length_bytes (suc k) n = ap suc (length_bytes k (n / 256))

-- bytes that are below 256 are those of their number
pub bytes_number : (bs : List ℕ) (k : ℕ) → k ≤ length bs → ((i : ℕ) → get_or bs i 0 < 256) → low_bytes k (number_of bs) ≡ take k bs
bytes_number bs zero h small = refl
bytes_number [] (suc k) h small = absurd (omega arith)
bytes_number (b ∷ bs) (suc k) (suc-le-suc h) small =
    ap₂ (λ x xs. x ∷ xs)
    (low 256 (b % 256) (number_of bs) (byte_lt b) ∙ mod-eq_of_lt (small 0))
    (ap (low_bytes k) (high 256 (b % 256) (number_of bs) (byte_lt b)) ∙ bytes_number bs k h (λ i. small (suc i)))

-- the bytes of a number write it
pub number_bytes : (k n : ℕ) → n < 2 ^ (8 * k) → number_of (low_bytes k n) ≡ n
number_bytes zero n lt = omega arith
number_bytes (suc k) n lt =
    let p : 2 ^ (8 * suc k) ≡ 256 * 2 ^ (8 * k) = ap (λ x. 2 ^ x) (mul-suc 8 k ∙ add_comm (8 * k) 8) ∙ pow-add 2 8 (8 * k) in
    let up : n / 256 < 2 ^ (8 * k) = div_below n 256 (2 ^ (8 * k)) (omega arith) (omega (arith, p)) in
    omega (arith, number_bytes k (n / 256) up)
