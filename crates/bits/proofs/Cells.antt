-- One bit of a byte of a string.
use Rattle.std.proofs.Common.{◌≡◌, ℕ, zero, suc, ◌+◌, ◌-◌, ◌*◌, ◌/◌, ◌%◌, ◌^◌, ◌<◌, cond, nat_eq, bit_and, bit_or, List, length, get_or, set, refl, sym, ap, ◌∙◌, mod-eq_of_lt, arith}
use Rattle.std.specs.Int.Bits.{or_add_and}
use Rattle.std.proofs.lemmas.Nat.{and-not, and_comm, shl_whole}
use Rattle.std.proofs.lemmas.Nat.Bits.{shr_and_one, and_pow}
use Rattle.image.specs.Bits.{number_of, part, put}
use Rattle.image.proofs.Parts.{part_in, part_lt, put_in, put_is, put_lt}
use Rattle.image.proofs.Bytes.{byte_part, number_set}

place : (at : ℕ) → 8 * (at / 8) + at % 8 ≡ at
place at = omega arith

-- a byte that is one is the part of eight bits
byte_is : (bs : List ℕ) (j : ℕ) → get_or bs j 0 < 256 → get_or bs j 0 ≡ part (number_of bs) (8 * j) 8
byte_is bs j lt = sym (mod-eq_of_lt lt) ∙ sym (byte_part bs j)

pub bit_part : (bs : List ℕ) (at : ℕ) → get_or bs (at / 8) 0 < 256 → part (get_or bs (at / 8) 0) (at % 8) 1 ≡ part (number_of bs) at 1
bit_part bs at lt =
    ap (λ x. part x (at % 8) 1) (byte_is bs (at / 8) lt) ∙ part_in (number_of bs) (8 * (at / 8)) 8 (at % 8) 1 (omega arith)
    ∙ ap (λ x. part (number_of bs) x 1) (place at)

pub set_bit : (bs : List ℕ) (at v : ℕ) → get_or bs (at / 8) 0 < 256 → v < 2 → at / 8 < length bs
    → number_of (set bs (at / 8) (put (get_or bs (at / 8) 0) (at % 8) 1 v)) ≡ put (number_of bs) at 1 v
set_bit bs at v lt small h =
    let b = get_or bs (at / 8) 0 in
    number_set bs (at / 8) (put b (at % 8) 1 v) h
    ∙ ap (put (number_of bs) (8 * (at / 8)) 8) (mod-eq_of_lt (put_lt b (at % 8) 1 v 8 small (omega arith) lt) ∙ ap (λ x. put x (at % 8) 1 v) (byte_is bs (at / 8) lt))
    ∙ put_in (number_of bs) (8 * (at / 8)) 8 (at % 8) 1 v (omega arith)
    ∙ ap (λ x. put (number_of bs) x 1 v) (place at)

-- a bit that is read, as a number
one_or_none : (x : ℕ) → x < 2 → cond (nat_eq x 1) 1 0 ≡ x
one_or_none zero h = refl
one_or_none (suc zero) h = refl
one_or_none (suc (suc x)) h = absurd (omega arith)

pub read_bit : (n i : ℕ) → cond (nat_eq (bit_and (n / 2 ^ i) 1) 1) 1 0 ≡ part n i 1
read_bit n i = ap (λ x. cond (nat_eq x 1) 1 0) (shr_and_one n i) ∙ one_or_none (n / 2 ^ i % 2) (part_lt n i 1)

module _ (b o : ℕ) (small : o < 8) where
  -- the mask of a bit of a byte
  mask : 1 * 2 ^ o % 256 ≡ 2 ^ o
  mask = omega (arith, shl_whole 1 1 o 8 (omega arith) (omega arith))

  pub set_in_byte : bit_or b (1 * 2 ^ o % 256) ≡ put b o 1 1
  set_in_byte = ap (bit_or b) mask ∙ omega (arith, or_add_and b (2 ^ o), and_pow b o, put_is b o 1 1)

  pub clear_in_byte : b < 256 → bit_and b (255 - 1 * 2 ^ o % 256) ≡ put b o 1 0
  clear_in_byte lt =
      ap (λ m. bit_and b (255 - m)) mask
      ∙ omega (arith, and-not 8 (2 ^ o) b (omega (arith, mask)) (omega arith), and_comm b (255 - 2 ^ o), and_comm b (2 ^ o), and_pow b o, put_is b o 1 0)
