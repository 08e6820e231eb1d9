-- The layout and the bytes of a sheet: each from the other.
use Rattle.std.proofs.Common.{◌≡◌, ℕ, zero, suc, ◌+◌, ◌*◌, ◌<◌, ◌≤◌, Bool, true, false, ◌&&◌, eqb, ltb, leb, List, [], ◌∷◌, ◌++◌, length, get_or, take, drop, None, sym, refl, ap, ◌∙◌, append_assoc, mul-le-mul_right, zero-mul, arith, w8, Fits}
use Rattle.std.proofs.lemmas.List.{length-append, length-drop, length-take-le, take-append-drop, take_at, drop_at, drop-drop, nil_from_length}
use Rattle.std.proofs.lemmas.Bool.{and_parts, and_from, eqb-true, eq-eqb, leb-true, le-leb, lt-ltb, ltb-true, false≢true}
use Rattle.std.specs.Simd.{first_chunks}
use Rattle.sheet.specs.declared.refusal.Reason.TheVariants.{EndsEarly, LeftOver, CountNotAllowed}
use Rattle.sheet.specs.Sections.{Row, Sheet, Shape, bytes, wide, fits_shape, shaped, strung, bytes_of}
use Rattle.sheet.specs.Tries.{Try, must, first_fault}
use Rattle.sheet.specs.Accept.{refusal, count_in, span, row_fits, section_tries, layout_tries, sections_in}
use Rattle.sheet.proofs.Firsts.{no_pass, or_else_parts, first_parts, first_both, each_pass, each_passed}

-- a test that is tried
pub must_passed : {F : Type 0} (b : Bool) (f : F) → must b f ≡ None → b ≡ true
must_passed true f e = refl
must_passed false f e = no_pass f e

pub must_pass : {F : Type 0} (b : Bool) (f : F) → b ≡ true → must b f ≡ None
must_pass b f e = rw e

one_passed : {F : Type 0} (t : Try F) → first_fault (t ∷ []) ≡ None → t ≡ None
one_passed t e = (or_else_parts t None e).0

one_pass : {F : Type 0} (t : Try F) → t ≡ None → first_fault (t ∷ []) ≡ None
one_pass t e = rw e

-- ---- bytes

pub bytes_take : (n : ℕ) (bs : List ℕ) → bytes bs ≡ true → bytes (take n bs) ≡ true
bytes_take zero bs h = refl
bytes_take (suc n) [] h = refl
bytes_take (suc n) (b ∷ bs) h = let p = and_parts (ltb b 256) (bytes bs) h in and_from (ltb b 256) (bytes (take n bs)) p.0 (bytes_take n bs p.1)

pub bytes_drop : (n : ℕ) (bs : List ℕ) → bytes bs ≡ true → bytes (drop n bs) ≡ true
bytes_drop zero bs h = h
bytes_drop (suc n) [] h = refl
bytes_drop (suc n) (b ∷ bs) h = bytes_drop n bs (and_parts (ltb b 256) (bytes bs) h).1

-- a list of which each place fits a byte
pub bytes_from : (bs : List ℕ) → ((i : ℕ) → Fits w8 (get_or bs i 0)) → bytes bs ≡ true
bytes_from [] h = refl
bytes_from (b ∷ bs) h = and_from (ltb b 256) (bytes bs) (lt-ltb b 256 (h 0).fits) (bytes_from bs (λ i. h (suc i)))

-- the length of the first row, and the other rows
pub wide_parts : (w : ℕ) (r : Row) (rs : List Row) → wide w (r ∷ rs) ≡ true → (length r ≡ w) × (wide w rs ≡ true)
wide_parts w r rs h =
    let p = and_parts (eqb (length r) w && bytes r) (wide w rs) h in
    (eqb-true (length r) w (and_parts (eqb (length r) w) (bytes r) p.0).0, p.1)

-- ---- runs of w bytes

pub length_chunked : (w n : ℕ) (bs : List ℕ) → length (first_chunks w n bs) ≡ n
length_chunked w zero bs = refl
length_chunked w (suc n) bs = ap (λ (k : ℕ). suc k) (length_chunked w n (drop w bs))

pub wide_chunked : (w n : ℕ) (bs : List ℕ) → bytes bs ≡ true → n * w ≤ length bs → wide w (first_chunks w n bs) ≡ true
wide_chunked w zero bs b l = refl
wide_chunked w (suc n) bs b l =
    let m : w + n * w ≡ suc n * w = omega arith in
    and_from (eqb (length (take w bs)) w && bytes (take w bs)) (wide w (first_chunks w n (drop w bs)))
    (and_from (eqb (length (take w bs)) w) (bytes (take w bs)) (eq-eqb (length (take w bs)) w (length-take-le w bs (omega (arith, m)))) (bytes_take w bs b))
    (wide_chunked w n (drop w bs) (bytes_drop w bs b) (omega (arith, m, length-drop w bs)))

pub strung_chunked : (w n : ℕ) (bs : List ℕ) → strung (first_chunks w n bs) ++ drop (n * w) bs ≡ bs
strung_chunked w zero bs = ap (λ k. drop k bs) (zero-mul w)
strung_chunked w (suc n) bs =
    let m : suc n * w ≡ w + n * w = omega arith in
    append_assoc (take w bs) (strung (first_chunks w n (drop w bs))) (drop (suc n * w) bs)
    ∙ ap (λ l. take w bs ++ (strung (first_chunks w n (drop w bs)) ++ l)) (ap (λ k. drop k bs) m ∙ sym (drop-drop (n * w) w bs))
    ∙ ap (λ l. take w bs ++ l) (strung_chunked w n (drop w bs))
    ∙ take-append-drop w bs

pub chunked_strung : (w : ℕ) (rs : List Row) (bs : List ℕ) → wide w rs ≡ true → first_chunks w (length rs) (strung rs ++ bs) ≡ rs
chunked_strung w [] bs h = refl
chunked_strung w (r ∷ rs) bs h =
    let p = wide_parts w r rs h in
    let n = p.0 in
    let whole = append_assoc r (strung rs) bs in
    let front : take w (r ++ strung rs ++ bs) ≡ r = ap (take w) whole ∙ take_at r (strung rs ++ bs) w n in
    let back : drop w (r ++ strung rs ++ bs) ≡ strung rs ++ bs = ap (drop w) whole ∙ drop_at r (strung rs ++ bs) w n in
    (λ i. front i ∷ first_chunks w (length rs) (back i)) ∙ ap (λ l. r ∷ l) (chunked_strung w rs bs p.1)

pub length_strung : (w : ℕ) (rs : List Row) → wide w rs ≡ true → length (strung rs) ≡ length rs * w
length_strung w [] h = sym (zero-mul w)
length_strung w (r ∷ rs) h =
    let p = wide_parts w r rs h in
    let m : suc (length rs) * w ≡ w + length rs * w = omega arith in
    length-append r (strung rs) ∙ (λ i. p.0 i + length_strung w rs p.1 i) ∙ sym m

-- ---- one section

-- what the tries of a section show
pub record Laid (h : Shape) (bs : List ℕ) : Type 0 where
  pub counted : 0 < length bs
  pub few : (leb h.least (count_in bs) && leb (count_in bs) h.most) ≡ true
  pub whole : 1 + count_in bs * h.width ≤ length bs

rows_fit : (h : Shape) (bs : List ℕ) (n : ℕ) → 0 < length bs → ((i : ℕ) → i < n → row_fits h bs i ≡ true) → 1 + n * h.width ≤ length bs
rows_fit h bs zero c f = let z : 0 * h.width ≡ 0 = zero-mul h.width in omega (arith, z)
rows_fit h bs (suc n) c f = let e : suc n * h.width ≡ (n + 1) * h.width = omega arith in omega (arith, e, leb-true (1 + (n + 1) * h.width) (length bs) (f n (omega arith)))

pub section_laid : (s : ℕ) (h : Shape) (bs : List ℕ) → first_fault (section_tries s h bs) ≡ None → Laid h bs
section_laid s h bs e =
    let a = or_else_parts (must (ltb 0 (length bs)) (refusal EndsEarly s 0)) _ e in
    let b = or_else_parts (must (leb h.least (count_in bs) && leb (count_in bs) h.most) (refusal CountNotAllowed s 0)) _ a.1 in
    let c = ltb-true 0 (length bs) (must_passed (ltb 0 (length bs)) _ a.0) in
    record {
      counted = c;
      few = must_passed (leb h.least (count_in bs) && leb (count_in bs) h.most) _ b.0;
      whole = rows_fit h bs (count_in bs) c (λ i l. must_passed (row_fits h bs i) (refusal EndsEarly s i) (one_passed (must (row_fits h bs i) (refusal EndsEarly s i)) (each_passed (λ i. must (row_fits h bs i) (refusal EndsEarly s i) ∷ []) (count_in bs) i b.1 l)));
    }

pub laid_section : (s : ℕ) (h : Shape) (bs : List ℕ) → Laid h bs → first_fault (section_tries s h bs) ≡ None
laid_section s h bs l =
    rw (must_pass (ltb 0 (length bs)) (refusal EndsEarly s 0) (lt-ltb 0 (length bs) l.counted), must_pass (leb h.least (count_in bs) && leb (count_in bs) h.most) (refusal CountNotAllowed s 0) l.few)
    (each_pass (λ i. must (row_fits h bs i) (refusal EndsEarly s i) ∷ []) (count_in bs) (λ i b.
    let up : i + 1 ≤ count_in bs = omega arith in
    one_pass (must (row_fits h bs i) (refusal EndsEarly s i)) (must_pass (row_fits h bs i) (refusal EndsEarly s i) (le-leb (1 + (i + 1) * h.width) (length bs) (omega (arith, mul-le-mul_right h.width up, l.whole))))))

-- ---- all sections

-- the bytes behind the section at the front
behind : (c w : ℕ) (cs : List ℕ) → drop (1 + c * w) (c ∷ cs) ≡ drop (c * w) cs
behind c w cs = sym (drop-drop (c * w) 1 (c ∷ cs))

-- bytes whose layout passes are the bytes of the sections that stand in them
pub layout_bytes : (s : ℕ) (hs : List Shape) (bs : List ℕ) → first_fault (layout_tries s hs bs) ≡ None → bytes_of (sections_in hs bs) ≡ bs
layout_bytes s [] bs e = sym (nil_from_length bs (eqb-true (length bs) 0 (must_passed (eqb (length bs) 0) (refusal LeftOver s 0) (one_passed (must (eqb (length bs) 0) (refusal LeftOver s 0)) e))))
layout_bytes s (h ∷ hs) [] e = absurd (no_count (section_laid s h [] (first_parts (section_tries s h []) (layout_tries (s + 1) hs (drop (span h []) [])) e).0).counted)
  where
    no_count : 0 < 0 → ⊥
    no_count l = omega arith
layout_bytes s (h ∷ hs) (c ∷ cs) e =
    let p = first_parts (section_tries s h (c ∷ cs)) (layout_tries (s + 1) hs (drop (span h (c ∷ cs)) (c ∷ cs))) e in
    let rest = layout_bytes (s + 1) hs (drop (span h (c ∷ cs)) (c ∷ cs)) p.1 in
    (λ i. length_chunked h.width c cs i ∷ (strung (first_chunks h.width c cs) ++ (rest ∙ behind c h.width cs) i))
    ∙ ap (λ l. c ∷ l) (strung_chunked h.width c cs)

-- and those sections have the shapes
pub layout_shaped : (s : ℕ) (hs : List Shape) (bs : List ℕ) → bytes bs ≡ true → first_fault (layout_tries s hs bs) ≡ None → shaped hs (sections_in hs bs) ≡ true
layout_shaped s [] bs b e = refl
layout_shaped s (h ∷ hs) bs b e =
    let p = first_parts (section_tries s h bs) (layout_tries (s + 1) hs (drop (span h bs) bs)) e in
    let l = section_laid s h bs p.0 in
    let n = length_chunked h.width (count_in bs) (drop 1 bs) in
    let f = and_parts (leb h.least (count_in bs)) (leb (count_in bs) h.most) l.few in
    let w : wide h.width (first_chunks h.width (count_in bs) (drop 1 bs)) ≡ true = wide_chunked h.width (count_in bs) (drop 1 bs) (bytes_drop 1 bs b) (omega (arith, l.whole, length-drop 1 bs)) in
    rw (n, f.0, f.1, w) (layout_shaped (s + 1) hs (drop (span h bs) bs) (bytes_drop (span h bs) bs b) p.1)

module _ (h : Shape) (rs : List Row) (t : Sheet) (f : fits_shape h rs ≡ true) where
  -- the parts of a section's shape
  shape_few : (leb h.least (length rs) && leb (length rs) h.most) ≡ true
  shape_few =
      let a = and_parts (leb h.least (length rs)) (leb (length rs) h.most && wide h.width rs) f in
      and_from (leb h.least (length rs)) (leb (length rs) h.most) a.0 (and_parts (leb (length rs) h.most) (wide h.width rs) a.1).0

  shape_wide : wide h.width rs ≡ true
  shape_wide = (and_parts (leb (length rs) h.most) (wide h.width rs) (and_parts (leb h.least (length rs)) (leb (length rs) h.most && wide h.width rs) f).1).1

  written_laid : Laid h (bytes_of (rs ∷ t))
  written_laid =
      record {
        counted = omega arith;
        few = shape_few;
        whole = omega (arith, length-append (strung rs) (bytes_of t), length_strung h.width rs shape_wide);
      }

  written_behind : drop (span h (bytes_of (rs ∷ t))) (bytes_of (rs ∷ t)) ≡ bytes_of t
  written_behind = behind (length rs) h.width (strung rs ++ bytes_of t) ∙ drop_at (strung rs) (bytes_of t) (length rs * h.width) (length_strung h.width rs shape_wide)

-- the bytes of sections that have the shapes pass the layout
pub shaped_layout : (s : ℕ) (hs : List Shape) (t : Sheet) → shaped hs t ≡ true → first_fault (layout_tries s hs (bytes_of t)) ≡ None
shaped_layout s [] [] e = refl
shaped_layout s [] (rs ∷ t) e = absurd (false≢true e)
shaped_layout s (h ∷ hs) [] e = absurd (false≢true e)
shaped_layout s (h ∷ hs) (rs ∷ t) e =
    let p = and_parts (fits_shape h rs) (shaped hs t) e in
    first_both (section_tries s h (bytes_of (rs ∷ t))) _ (laid_section s h (bytes_of (rs ∷ t)) (written_laid h rs t p.0))
    (ap (λ l. first_fault (layout_tries (s + 1) hs l)) (written_behind h rs t p.0) ∙ shaped_layout (s + 1) hs t p.1)

-- and those sections stand in them
pub shaped_sections : (hs : List Shape) (t : Sheet) → shaped hs t ≡ true → sections_in hs (bytes_of t) ≡ t
shaped_sections [] [] e = refl
shaped_sections [] (rs ∷ t) e = absurd (false≢true e)
shaped_sections (h ∷ hs) [] e = absurd (false≢true e)
shaped_sections (h ∷ hs) (rs ∷ t) e =
    let p = and_parts (fits_shape h rs) (shaped hs t) e in
    (λ i. chunked_strung h.width rs (bytes_of t) (shape_wide h rs t p.0) i ∷ (ap (sections_in hs) (written_behind h rs t p.0) ∙ shaped_sections hs t p.1) i)
