-- What the shapes say of each section of an accepted sheet.
use Rattle.std.proofs.Common.{◌≡◌, ℕ, zero, suc, ◌+◌, ◌*◌, ◌<◌, ◌≤◌, Bool, true, not, ◌&&◌, leb, List, [], ◌∷◌, length, get_or, is_some, Some, Option, unwrap_or, refl, ap, ◌∙◌, ⊎_elim, arith}
use Rattle.std.proofs.lemmas.Option.{slice_get-get_or}
use Rattle.std.proofs.lemmas.List.{get_or_past}
use Rattle.std.proofs.lemmas.Bool.{and_parts, leb-true, false≢true, cases_lt}
use Rattle.std.specs.Option.{option_map}
use Rattle.sheet.specs.Sections.{Row, Sheet, rows, Shape, shape, shapes, wide, fits_shape, shaped, section_bytes, width_of}
use Rattle.sheet.specs.Tries.{first_fault}
use Rattle.sheet.specs.Accept.{accepted, sheet_tries}
use Rattle.sheet.specs.Cells.{count_of}
use Rattle.sheet.proofs.Layouts.{length_strung, wide_parts}

pub shaped_at : (hs : List Shape) (s : Sheet) (k : ℕ) → shaped hs s ≡ true → k < length hs → fits_shape (get_or hs k (shape 0 0 0)) (get_or s k []) ≡ true
shaped_at [] s k e l = absurd (omega arith)
shaped_at (h ∷ hs) [] k e l = absurd (false≢true e)
shaped_at (h ∷ hs) (rs ∷ s) zero e l = (and_parts (fits_shape h rs) (shaped hs s) e).0
shaped_at (h ∷ hs) (rs ∷ s) (suc k) e l = shaped_at hs s k (and_parts (fits_shape h rs) (shaped hs s) e).1 (omega arith)

shaped_length : (hs : List Shape) (s : Sheet) → shaped hs s ≡ true → length s ≡ length hs
shaped_length [] [] e = refl
shaped_length [] (rs ∷ s) e = absurd (false≢true e)
shaped_length (h ∷ hs) [] e = absurd (false≢true e)
shaped_length (h ∷ hs) (rs ∷ s) e = ap (λ (n : ℕ). suc n) (shaped_length hs s (and_parts (fits_shape h rs) (shaped hs s) e).1)

-- no shape has more than 8 bytes to a row and 128 rows
small : List Shape → Bool
small [] = true
small (h ∷ hs) = (leb h.width 8 && leb h.most 128) && small hs

small_at : (hs : List Shape) (k : ℕ) → small hs ≡ true → ((get_or hs k (shape 0 0 0)).width ≤ 8) × ((get_or hs k (shape 0 0 0)).most ≤ 128)
unfolding small
small_at [] k e = (omega arith, omega arith)
small_at (h ∷ hs) zero e =
    let p = and_parts (leb h.width 8) (leb h.most 128) (and_parts (leb h.width 8 && leb h.most 128) (small hs) e).0 in
    (leb-true h.width 8 p.0, leb-true h.most 128 p.1)
small_at (h ∷ hs) (suc k) e = small_at hs k (and_parts (leb h.width 8 && leb h.most 128) (small hs) e).1

shapes_small : small shapes ≡ true
unfolding small
shapes_small = refl

pub accepted_shaped : (s : Sheet) → accepted s ≡ true → shaped shapes s ≡ true
accepted_shaped s a = (and_parts (shaped shapes s) (not (is_some (first_fault (sheet_tries s)))) a).0

-- An accepted sheet has nine sections.
pub nine_sections : (s : Sheet) → accepted s ≡ true → length s ≡ 9
nine_sections s a = shaped_length shapes s (accepted_shaped s a)

-- What is known of each section of an accepted sheet.
pub record Sized (s : Sheet) (k : ℕ) : Type 0 where
  pub few : length (rows s k) ≤ 128
  pub within : length (rows s k) ≤ (get_or shapes k (shape 0 0 0)).most
  pub narrow : width_of k ≤ 8
  pub long : length (section_bytes (rows s k)) ≡ 1 + length (rows s k) * width_of k
  pub counted : count_of s k ≡ Some (length (rows s k))

pub sized : (s : Sheet) (k : ℕ) → accepted s ≡ true → k < 9 → Sized s k
sized s k a l =
    let e = accepted_shaped s a in
    let h = get_or shapes k (shape 0 0 0) in
    let f = shaped_at shapes s k e l in
    let p = and_parts (leb h.least (length (rows s k))) (leb (length (rows s k)) h.most && wide h.width (rows s k)) f in
    let q = and_parts (leb (length (rows s k)) h.most) (wide h.width (rows s k)) p.1 in
    let m = small_at shapes k shapes_small in
    record {
      few = omega (arith, leb-true (length (rows s k)) h.most q.0, m.1);
      within = leb-true (length (rows s k)) h.most q.0;
      narrow = m.0;
      long = omega (arith, length_strung h.width (rows s k) q.1);
      counted = ap (option_map length) (slice_get-get_or s k [] (omega (arith, nine_sections s a)));
    }

wide_at : (w : ℕ) (rs : List Row) (i : ℕ) → wide w rs ≡ true → i < length rs → length (get_or rs i []) ≡ w
wide_at w [] i e l = absurd (omega arith)
wide_at w (r ∷ rs) zero e l = (wide_parts w r rs e).0
wide_at w (r ∷ rs) (suc i) e l = wide_at w rs i (wide_parts w r rs e).1 (omega arith)

-- A row of an accepted sheet has as many bytes as its section says.
pub row_width : (s : Sheet) (k i : ℕ) → accepted s ≡ true → i < length (rows s k) → length (get_or (rows s k) i []) ≡ width_of k
row_width s k i a l =
    ⊎_elim
    (λ (inside : k < 9).
    let h = get_or shapes k (shape 0 0 0) in
    let f = shaped_at shapes s k (accepted_shaped s a) inside in
    let p = and_parts (leb h.least (length (rows s k))) (leb (length (rows s k)) h.most && wide h.width (rows s k)) f in
    wide_at h.width (rows s k) i (and_parts (leb (length (rows s k)) h.most) (wide h.width (rows s k)) p.1).1 l)
    (λ (past : 9 ≤ k). let none : length (rows s k) ≡ 0 = ap length (get_or_past s k [] (omega (arith, nine_sections s a))) in absurd (omega arith))
    (cases_lt k 9)

-- what the count of a section tells
pub count_is : (s : Sheet) (k : ℕ) → accepted s ≡ true → k < 9 → (o : Option ℕ) → o ≡ count_of s k → unwrap_or o 0 ≡ length (rows s k)
count_is s k a l o e = ap (λ o. unwrap_or o 0) (e ∙ (sized s k a l).counted)
