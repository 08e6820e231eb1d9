-- The lengths of sections, from what their counts are.
use Rattle.std.proofs.Common.{◌≡◌, ℕ, zero, suc, ◌+◌, ◌*◌, ◌<◌, ◌≤◌, true, List, [], ◌∷◌, length, get_or, map, sym, sum, refl, ap, ap₂, ◌∙◌, mul-le-mul, arith}
use Rattle.std.specs.List.{range_with_len}
use Rattle.std.proofs.lemmas.List.{length-append}
use Rattle.std.proofs.lemmas.List.Sums.{sum_by-cons}
use Rattle.sheet.specs.Sections.{Sheet, rows, shape, shapes, Shape, section_bytes, bytes_of, width_of}
use Rattle.sheet.specs.Accept.{accepted}
use Rattle.sheet.proofs.Shapes.{sized, nine_sections}

-- the bytes of a row of each section, in their order
abbrev pub widths : List ℕ
widths = 2 ∷ 8 ∷ 2 ∷ 4 ∷ 4 ∷ 5 ∷ 5 ∷ 3 ∷ 1 ∷ []

widths_at : (hs : List Shape) (k : ℕ) → get_or (map (λ (h : Shape). h.width) hs) k 0 ≡ (get_or hs k (shape 0 0 0)).width
widths_at [] k = refl
widths_at (h ∷ hs) zero = refl
widths_at (h ∷ hs) (suc k) = widths_at hs k

pub width_is : (k : ℕ) → get_or widths k 0 ≡ width_of k
width_is k = widths_at shapes k

-- the length of a section of an accepted sheet, from its number of rows
module _ (s : Sheet) (k : ℕ) (a : accepted s ≡ true) (l : k < 9) (n : ℕ) (e : n ≡ length (rows s k)) where
  pub length_is : 1 + n * get_or widths k 0 ≡ length (section_bytes (rows s k))
  length_is = (λ i. 1 + e i * width_is k i) ∙ sym (sized s k a l).long

  pub length_few : n * get_or widths k 0 ≤ 1024
  length_few =
      let few : n ≤ 128 = omega (arith, e, (sized s k a l).few) in
      let narrow : get_or widths k 0 ≤ 8 = omega (arith, width_is k, (sized s k a l).narrow) in
      mul-le-mul few narrow

-- the lengths of all sections add up to that of the sheet
added : (f : ℕ → ℕ) (n j : ℕ) (s : Sheet) → n ≡ length s → ((k : ℕ) → k < n → f (j + k) ≡ length (section_bytes (rows s k))) → sum (map f (range_with_len j n)) ≡ length (bytes_of s)
added f zero j [] e h = refl
added f zero j (rs ∷ s) e h = absurd (omega arith)
added f (suc n) j [] e h = absurd (omega arith)
added f (suc n) j (rs ∷ s) e h =
    sum_by-cons (λ x. x) (f j) (map f (range_with_len (j + 1) n))
    ∙ ap₂ (λ x y. x + y) (ap f (omega arith) ∙ h 0 (omega arith)) (added f n (j + 1) s (omega arith) (λ k l. ap f (omega arith) ∙ h (suc k) (omega arith)))
    ∙ sym (length-append (section_bytes rs) (bytes_of s))

pub sum_of_lengths : (s : Sheet) → accepted s ≡ true → sum (map (λ k. length (section_bytes (rows s k))) (range_with_len 0 9)) ≡ length (bytes_of s)
sum_of_lengths s a = added (λ k. length (section_bytes (rows s k))) 9 0 s (sym (nine_sections s a)) (λ k l. ap (λ j. length (section_bytes (rows s j))) (omega arith))
