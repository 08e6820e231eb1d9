-- The bit length is the least width that holds a number.
use Rattle.std.proofs.Common.{◌≡◌, ℕ, suc, ◌^◌, ◌<◌, ◌≤◌, subst, ⊎_elim, arith, pow_mono}
use Rattle.std.proofs.lemmas.Nat.{leading_length}
use Rattle.std.proofs.lemmas.Bool.{cases_lt}
use Rattle.image.specs.Bits.{bit_length}

pub holds : (n : ℕ) → n < 2 ^ 32 → n < 2 ^ bit_length n
holds n lt =
    let l = leading_length 32 n lt in
    let e : l.0 ≡ bit_length n = omega (arith, l.1) in
    let P : ℕ → Type 0 = λ w. n < 2 ^ w in
    subst P e l.2

pub least : (n w : ℕ) → n < 2 ^ 32 → n < 2 ^ w → bit_length n ≤ w
least n w lt h =
    let l = leading_length 32 n lt in
    let e : l.0 ≡ bit_length n = omega (arith, l.1) in
    ⊎_elim
    (λ big. let up = pow_mono {i = suc w} {j = l.0} (omega arith) in absurd (omega (arith, l.3, up)))
    (λ ok. ok)
    (cases_lt w (bit_length n))
