-- A number as the sum of its bits.
use Rattle.std.proofs.Common.{◌≡◌, ℕ, zero, suc, ◌+◌, ◌*◌, ◌%◌, ◌^◌, ◌≤◌, sum, map, sym, ap, ◌∙◌, add-one, arith}
use Rattle.std.specs.List.{range_with_len}
use Rattle.std.proofs.lemmas.List.FromFn.{sum_by-map-range_with_len_more}
use Rattle.std.proofs.lemmas.Nat.{shl_whole}
use Rattle.image.specs.Bits.{part}
use Rattle.image.proofs.Parts.{part_lt, part_more}

-- one bit in its place, in a number of 32 bits
abbrev pub bit_at : (number place i : ℕ) → ℕ
bit_at n at i = part n (at + i) 1 * 2 ^ i % 2 ^ 32

pub sum_of_bits : (n at w : ℕ) → w ≤ 32 → sum (map (bit_at n at) (range_with_len 0 w)) ≡ part n at w
sum_of_bits n at zero h = omega arith
sum_of_bits n at (suc w) h =
    let last = shl_whole (part n (at + w) 1) 1 w 32 (part_lt n (at + w) 1) (omega arith) in
    let more = sum_by-map-range_with_len_more (λ x. x) (bit_at n at) 0 w w (omega arith) in
    let whole : sum (map (bit_at n at) (range_with_len 0 (w + 1))) ≡ part n at (w + 1) = omega (arith, more, sum_of_bits n at w (omega arith), last, part_more n at w 1) in
    ap (λ k. sum (map (bit_at n at) (range_with_len 0 k))) (sym (add-one w)) ∙ whole ∙ ap (part n at) (add-one w)
