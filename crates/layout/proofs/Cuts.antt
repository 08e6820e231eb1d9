-- What cutting a section off the front of the bytes comes to, case by case, and all sections.
use Rattle.std.proofs.Common.{◌≡◌, ℕ, zero, suc, ◌+◌, ◌*◌, ◌/◌, ◌<◌, ◌≤◌, true, false, ◌&&◌, eqb, ltb, leb, ◌⊎◌, List, [], ◌∷◌, length, take, drop, Some, None, Ok, Err, Result, sym, refl, ap, ◌∙◌, ⊎_elim, mul-le-mul_right, div-mul-le_self, arith}
use native.Mathlib.Nat.{lt-div-mul-add}
use Rattle.std.proofs.lemmas.List.{drop-drop, nil_from_length, take-take, drop-take}
use Rattle.std.proofs.lemmas.Bool.{and_from, and_left, and_right, le-leb, lt-leb, lt-ltb}
use Rattle.std.specs.Simd.{first_chunks}
use Rattle.sheet.specs.declared.refusal.Refusal.{Refusal}
use Rattle.sheet.specs.declared.refusal.Reason.TheVariants.{EndsEarly, LeftOver, CountNotAllowed}
use Rattle.sheet.specs.Sections.{Row, Sheet, Shape}
use Rattle.sheet.specs.Tries.{Try, must, or_else, first_fault, each}
use Rattle.sheet.specs.Accept.{refusal, count_in, span, row_fits, section_tries, layout_tries, sections_in, judged}
use Rattle.sheet.proofs.Firsts.{first_append, each_pass, each_stops}
use Rattle.sheet.proofs.Layouts.{Laid, laid_section}
use Rattle.layout.specs.Sections.{section, sections, after, put}

-- the tries of rows
fits_tries : ℕ → Shape → List ℕ → ℕ → List (Try Refusal)
fits_tries s h bs i = must (row_fits h bs i) (refusal EndsEarly s i) ∷ []

counted : (n : ℕ) (rest : List ℕ) → ltb 0 (length (n ∷ rest)) ≡ true
counted n rest = lt-ltb 0 (length (n ∷ rest)) (omega arith)

pub missing : (s : ℕ) (h : Shape) (bs : List ℕ) → length bs ≡ 0 → section s h bs ≡ Err (refusal EndsEarly s 0)
unfolding section
missing s h bs e = rw (nil_from_length bs e)

module _ (s : ℕ) (h : Shape) (bs : List ℕ) (n : ℕ) (rest : List ℕ) (is : bs ≡ n ∷ rest) where
  pub not_allowed : (n < h.least) ⊎ (h.most < n) → section s h bs ≡ Err (refusal CountNotAllowed s 0)
  unfolding section
  not_allowed out =
      let wrong : (leb h.least n && leb n h.most) ≡ false =
      ⊎_elim (λ (l : n < h.least). and_left (leb h.least n) (leb n h.most) (lt-leb h.least n l))
      (λ (l : h.most < n). and_right (leb h.least n) (leb n h.most) (lt-leb n h.most l)) out in
      rw (is, counted n rest, wrong)

  module _ (few : h.least ≤ n) (many : n ≤ h.most) (some : 0 < h.width) where
    -- row i does not fit whole, and every earlier row does
    pub short : length rest / h.width < n → section s h bs ≡ Err (refusal EndsEarly s (length rest / h.width))
    unfolding section fits_tries
    short l =
        let w = h.width in
        let i = length rest / w in
        let right : (leb h.least n && leb n h.most) ≡ true = and_from (leb h.least n) (leb n h.most) (le-leb h.least n few) (le-leb n h.most many) in
        let before : first_fault (each i (fits_tries s h (n ∷ rest))) ≡ None =
        each_pass (fits_tries s h (n ∷ rest)) i (λ j b.
        let up : j + 1 ≤ i = omega arith in
        let room : row_fits h (n ∷ rest) j ≡ true = le-leb (1 + (j + 1) * w) (length (n ∷ rest)) (omega (arith, mul-le-mul_right w up, div-mul-le_self (length rest) w)) in
        rw room) in
        let stops : first_fault (fits_tries s h (n ∷ rest) i) ≡ Some (refusal EndsEarly s i) =
        (let m : (i + 1) * w ≡ i * w + w = omega arith in
        let none : row_fits h (n ∷ rest) i ≡ false = lt-leb (1 + (i + 1) * w) (length (n ∷ rest)) (omega (arith, m, lt-div-mul-add {a = length rest} {b = w} some)) in
        rw none) in
        rw (is, counted n rest, right) (ap (judged _) (each_stops (fits_tries s h (n ∷ rest)) i n (refusal EndsEarly s i) before stops l))

    pub whole : n * h.width ≤ length rest → section s h bs ≡ Ok (first_chunks h.width n rest, drop (n * h.width) rest)
    unfolding section
    whole l =
        let laid : Laid h (n ∷ rest) = record { counted = omega arith; few = and_from (leb h.least n) (leb n h.most) (le-leb h.least n few) (le-leb n h.most many); whole = omega arith } in
        rw (is, laid_section s h (n ∷ rest) laid) (ap (λ b. Ok (first_chunks h.width n rest, b)) (sym (drop-drop (n * h.width) 1 (n ∷ rest))))

-- runs that lie in the front of a list
pub chunked_front : (w n : ℕ) (xs : List ℕ) → first_chunks w n (take (n * w) xs) ≡ first_chunks w n xs
chunked_front w zero xs = refl
chunked_front w (suc n) xs =
    let m : suc n * w ≡ w + n * w = omega arith in
    (λ i. (ap (take w) (ap (λ k. take k xs) m) ∙ take-take w (w + n * w) xs (omega arith)) i ∷ (ap (λ l. first_chunks w n l) (ap (λ k. drop w (take k xs)) m ∙ drop-take w (n * w) xs) ∙ chunked_front w n (drop w xs)) i)

-- ---- all sections

after_judged : (p : List Row × List ℕ) (v : Try Refusal) (more : List ℕ → Result Sheet Refusal) (t : Sheet) (w : Try Refusal) → more p.1 ≡ judged t w → after (judged p v) more ≡ judged (p.0 ∷ t) (or_else v w)
after_judged p (Some f) more t w e = refl
after_judged p None more t w e = ap (put p.0) e ∙ put_judged w
  where
    put_judged : (w : Try Refusal) → put p.0 (judged t w) ≡ judged (p.0 ∷ t) w
    put_judged None = refl
    put_judged (Some f) = refl

-- the sections one by one are the rows in the bytes, or the first fault of the layout
pub sections_are : (s : ℕ) (hs : List Shape) (bs : List ℕ) → sections s hs bs ≡ judged (sections_in hs bs) (first_fault (layout_tries s hs bs))
unfolding section
sections_are s [] bs = ap (judged []) (alone (must (eqb (length bs) 0) (refusal LeftOver s 0)))
  where
    alone : (t : Try Refusal) → t ≡ or_else t None
    alone None = refl
    alone (Some f) = refl
sections_are s (h ∷ hs) bs =
    let rest = drop (span h bs) bs in
    after_judged (first_chunks h.width (count_in bs) (drop 1 bs), rest) (first_fault (section_tries s h bs)) (sections (s + 1) hs) (sections_in hs rest) (first_fault (layout_tries (s + 1) hs rest)) (sections_are (s + 1) hs rest)
    ∙ ap (judged (sections_in (h ∷ hs) bs)) (sym (first_append (section_tries s h bs) (layout_tries (s + 1) hs rest)))
