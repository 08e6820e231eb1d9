-- The places of fields, as sums of widths.
use Rattle.std.proofs.Common.{◌≡◌, ℕ, zero, suc, ◌+◌, ◌<◌, ◌≤◌, true, List, length, get_or, take, drop, sum, map, refl, sym, ap, ◌∙◌, add-one, arith}
use Rattle.std.specs.List.{range_with_len}
use Rattle.std.proofs.lemmas.List.{take-append-drop}
use Rattle.std.proofs.lemmas.List.FromFn.{sum_by-map-range_with_len_more}
use Rattle.image.specs.Reading.{widths, total, place}
use Rattle.image.proofs.Layouts.{place_le, place_more, total_append}
use Rattle.image.proofs.Proved.{total_few}
use Rattle.sheet.specs.Sections.{Sheet}
use Rattle.sheet.specs.Accept.{accepted}

-- the widths before a field add up to its place
pub sum_of_widths : (ws : List ℕ) (i : ℕ) → i ≤ length ws → sum (map (λ k. get_or ws k 0) (range_with_len 0 i)) ≡ place ws i
sum_of_widths ws zero h = refl
sum_of_widths ws (suc i) h =
    ap (λ k. sum (map (λ k. get_or ws k 0) (range_with_len 0 k))) (sym (add-one i))
    ∙ sum_by-map-range_with_len_more (λ x. x) (λ k. get_or ws k 0) 0 i i (omega arith)
    ∙ ap (λ n. n + get_or ws i 0) (sum_of_widths ws i (omega arith))
    ∙ sym (place_more ws i 0 (omega arith))

-- no field begins behind them all
pub place_within : (ws : List ℕ) (i : ℕ) → place ws i ≤ total ws
place_within ws i = omega (arith, total_append (take i ws) (drop i ws), ap total (take-append-drop i ws))

-- a field ends within an image
pub ends_within : (s : Sheet) (i : ℕ) → accepted s ≡ true → i < length (widths s) → place (widths s) i + get_or (widths s) i 0 ≤ 1088
ends_within s i a h = omega (arith, place_le (widths s) i 0 h, total_few s a)
