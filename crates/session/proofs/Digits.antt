-- Digits in base sixteen that are written, and read again.
use Rattle.std.proofs.Common.{◌≡◌, ℕ, zero, suc, ◌+◌, ◌*◌, ◌/◌, ◌%◌, ◌<◌, true, cond, ◌&&◌, ltb, List, [], ◌∷◌, ◌++◌, length, get_or, drop, is_some, Some, None, Option, sym, refl, ap, ◌∙◌, append_assoc, div-add-mod', arith, w8, Fits}
use lib.Utf8.{encode}
use Rattle.std.proofs.lemmas.List.{drop_more}
use Rattle.std.proofs.lemmas.Bool.{lt-ltb, and_from, false≢true}
use Rattle.std.proofs.lemmas.Str.{digit_value-digit_char, encode_ascii}
use Rattle.std.proofs.lemmas.Bool.Decides.{nat_tests}
use Rattle.std.specs.Option.{option_map}
use Rattle.std.specs.List.{list_all}
use Rattle.std.specs.Simd.{first_chunks}
use Rattle.std.specs.Char.{digit_char}
use Rattle.session.specs.Pieces.{in_front}
use Rattle.session.specs.Sixteen.{byte_of, hex_of, hex_text, HexReadsBack}

-- a digit that is read is below sixteen
pub digit_small : (x d : ℕ) → Some d ≡ cond (ltb x 16) (Some x) None → d < 16
digit_small x d e = grind (arith, nat_tests)

-- the byte of two values, where each is below sixteen
abbrev byte_of_values : ℕ → ℕ → Option ℕ
byte_of_values x y = cond (ltb x 16 && ltb y 16) (Some (x * 16 + y)) None

values_small : (x y b : ℕ) → x < 16 → y < 16 → x * 16 + y ≡ b → byte_of_values x y ≡ Some b
values_small x y b small-x small-y e =
    let both : (ltb x 16 && ltb y 16) ≡ true = and_from (ltb x 16) (ltb y 16) (lt-ltb x 16 small-x) (lt-ltb y 16 small-y) in
    ap (λ t. cond t (Some (x * 16 + y)) None) both ∙ ap Some e

byte_back : (b : ℕ) → b < 256 → byte_of (digit_char (b / 16)) (digit_char (b % 16)) ≡ Some b
byte_back b small =
    let high : b / 16 < 16 = omega arith in
    let low : b % 16 < 16 = omega arith in
    let x = digit_value-digit_char (b / 16) (omega arith) in
    let y = digit_value-digit_char (b % 16) (omega arith) in
    (λ i. byte_of_values (x i) (y i)) ∙ values_small (b / 16) (b % 16) b high low (div-add-mod' b 16)

pub reads_back : HexReadsBack
reads_back [] all = refl
reads_back (b ∷ bs) all =
    let first = byte_back b all.0 in
    let rest = reads_back bs all.1 in
    λ i. in_front (first i) (rest i)

-- the byte that a piece of two digits writes
abbrev pub byte_in : List ℕ → Option ℕ
byte_in p = byte_of (get_or p 0 0) (get_or p 1 0)

-- the bytes that pieces of two digits write
abbrev pub bytes_in : List (List ℕ) → Option (List ℕ)
bytes_in [] = Some []
bytes_in (p ∷ ps) = in_front (byte_in p) (bytes_in ps)

-- a text of whole pieces
paired : (k : ℕ) (xs : List ℕ) → length xs ≡ k * 2 → bytes_in (first_chunks 2 k xs) ≡ hex_of xs
paired zero [] e = refl
paired zero (x ∷ xs) e = absurd (omega arith)
paired (suc k) [] e = absurd (omega arith)
paired (suc k) (x ∷ []) e = absurd (omega arith)
paired (suc k) (x ∷ y ∷ ys) e = ap (in_front (byte_of x y)) (paired k ys (omega arith))

pub in_pieces : (xs : List ℕ) → length xs % 2 ≡ 0 → bytes_in (first_chunks 2 (length xs / 2) xs) ≡ hex_of xs
in_pieces xs e = paired (length xs / 2) xs (omega arith)

in_front_none : (o : Option ℕ) → in_front o None ≡ None
in_front_none None = refl
in_front_none (Some b) = refl

-- a digit left over
alone : (k : ℕ) (xs : List ℕ) → length xs ≡ k * 2 + 1 → hex_of xs ≡ None
alone k [] e = absurd (omega arith)
alone k (x ∷ []) e = refl
alone zero (x ∷ y ∷ ys) e = absurd (omega arith)
alone (suc k) (x ∷ y ∷ ys) e = ap (in_front (byte_of x y)) (alone k ys (omega arith)) ∙ in_front_none (byte_of x y)

pub left_over : (xs : List ℕ) → 0 < length xs % 2 → hex_of xs ≡ None
left_over xs e = alone (length xs / 2) xs (omega arith)

pub no_digit_over : (xs : List ℕ) → is_some (hex_of xs) ≡ true → length xs % 2 ≡ 0
no_digit_over xs e = or_else (length xs % 2) refl
  where
    or_else : (r : ℕ) → length xs % 2 ≡ r → length xs % 2 ≡ 0
    or_else zero f = f
    or_else (suc r) f = absurd (false≢true (ap is_some (sym (left_over xs (omega arith))) ∙ e))

-- whether pieces of two digits each write a byte
pub all_pieces : (ps : List (List ℕ)) → list_all (λ p. is_some (byte_in p)) ps ≡ is_some (bytes_in ps)
all_pieces [] = refl
all_pieces (p ∷ ps) = ap (λ b. is_some (byte_in p) && b) (all_pieces ps) ∙ both (byte_in p) (bytes_in ps)
  where
    both : (o : Option ℕ) (bs : Option (List ℕ)) → (is_some o && is_some bs) ≡ is_some (in_front o bs)
    both None bs = refl
    both (Some b) None = refl
    both (Some b) (Some bs) = refl

-- bytes behind none
pub none_before : (was : List ℕ) (bs : Option (List ℕ)) → was ≡ [] → option_map (λ l. was ++ l) bs ≡ bs
none_before was None e = refl
none_before was (Some bs) e = ap Some (ap (λ l. l ++ bs) e)

-- a byte put behind those that stand
behind : (was now : List ℕ) (b : ℕ) (bs : Option (List ℕ)) → now ≡ was ++ (b ∷ []) → option_map (λ l. now ++ l) bs ≡ option_map (λ l. was ++ l) (in_front (Some b) bs)
behind was now b None e = refl
behind was now b (Some bs) e = ap Some (ap (λ l. l ++ bs) e ∙ append_assoc was (b ∷ []) bs)

-- a byte read
pub read_more : (ps : List (List ℕ)) (i : ℕ) (was now : List ℕ) (b : ℕ) (whole : Option (List ℕ)) → i < length ps → Some b ≡ byte_in (get_or ps i []) → now ≡ was ++ (b ∷ []) → option_map (λ l. was ++ l) (bytes_in (drop i ps)) ≡ whole → option_map (λ l. now ++ l) (bytes_in (drop (i + 1) ps)) ≡ whole
read_more ps i was now b whole within e grown inv =
    behind was now b _ grown
    ∙ ap (λ o. option_map (λ l. was ++ l) (in_front o (bytes_in (drop (i + 1) ps)))) e
    ∙ ap (λ l. option_map (λ l. was ++ l) (bytes_in l)) (sym (drop_more ps i [] within))
    ∙ inv

-- a digit written behind the text so far
digit_behind : (was now : List ℕ) (d x : ℕ) → x < 16 → d ≡ digit_char x → now ≡ was ++ encode d → now ≡ was ++ (digit_char x ∷ [])
digit_behind was now d x small e grown =
    let ascii : digit_char x < 128 = grind (arith, nat_tests) in
    grown ∙ ap (λ l. was ++ l) (ap encode e ∙ encode_ascii (digit_char x) ascii)

-- a byte written behind the text so far
pub written_more : (bs was between now : List ℕ) (i high low : ℕ) → Fits w8 (get_or bs i 0) → i < length bs → high ≡ digit_char (get_or bs i 0 / 16) → between ≡ was ++ encode high → low ≡ digit_char (get_or bs i 0 % 16) → now ≡ between ++ encode low → was ++ hex_text (drop i bs) ≡ hex_text bs → now ++ hex_text (drop (i + 1) bs) ≡ hex_text bs
written_more bs was between now i high low fits within eh grown-high el grown-low inv =
    let b = get_or bs i 0 in
    let x = digit_char (b / 16) in
    let y = digit_char (b % 16) in
    let rest = hex_text (drop (i + 1) bs) in
    let first = digit_behind was between high (b / 16) (omega arith) eh grown-high in
    let second = digit_behind between now low (b % 16) (omega arith) el grown-low in
    let whole : now ≡ (was ++ (x ∷ [])) ++ (y ∷ []) = second ∙ ap (λ l. l ++ (y ∷ [])) first in
    let flat : ((was ++ (x ∷ [])) ++ (y ∷ [])) ++ rest ≡ was ++ (x ∷ (y ∷ rest)) = simp append_assoc in
    ap (λ l. l ++ rest) whole ∙ flat ∙ ap (λ l. was ++ l) (sym (ap hex_text (drop_more bs i 0 within))) ∙ inv
