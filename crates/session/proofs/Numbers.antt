-- Words read as numbers.
use Rattle.std.proofs.Common.{◌≡◌, ℕ, ◌^◌, ◌<◌, true, false, cond, ◌&&◌, ltb, List, [], ◌∷◌, length, Some, None, Result, Ok, Err, sym, refl, ap, ◌∙◌}
use Rattle.std.proofs.lemmas.Bool.{lt-ltb, and_parts, and_right, false_from_ne_true}
use Rattle.std.proofs.lemmas.Bool.Decides.{Decides-ltb}
use Rattle.std.proofs.lemmas.Str.{IsUtf8-from_ascii}
use Rattle.std.proofs.lemmas.Str.Parse.{IsNumeralModel, numerals_by_value, tells_all_ascii_digits, parse_digits}
use Rattle.std.proofs.lemmas.Fmt.{IsAscii-from_digits}
use Rattle.std.specs.Char.{is_ascii_digit}
use Rattle.std.specs.List.{list_all}
use Rattle.std.specs.Result.{result_ok, OkIff}
use Rattle.std.specs.Str.{all_ascii_digits, IsUtf8}
use Rattle.std.specs.Str.Parse.{digits_value, ParsesUnsigned}
use Rattle.session.specs.Calls.{number_in}

pub digits_all : (w : List ℕ) → list_all is_ascii_digit w ≡ all_ascii_digits w
digits_all [] = refl
digits_all (c ∷ cs) = ap (λ t. is_ascii_digit c && t) (digits_all cs)

-- decimal digits and the number that they write
numerals : IsNumeralModel (λ ds. all_ascii_digits ds ≡ true) (digits_value 10)
numerals = numerals_by_value (λ ds. all_ascii_digits ds ≡ true) tells_all_ascii_digits

pub digits_are_text : (w : List ℕ) → all_ascii_digits w ≡ true → IsUtf8 w
digits_are_text w all = IsUtf8-from_ascii w (IsAscii-from_digits w (numerals.to w all))

-- a word with a byte that is no digit
pub number_none : (w : List ℕ) → all_ascii_digits w ≡ false → number_in w ≡ None
number_none w other =
    let small = ltb (digits_value 10 w) (2 ^ 64) in
    ap (λ t. cond t (Some (digits_value 10 w)) None) (and_right (ltb 0 (length w)) (all_ascii_digits w && small) (ap (λ t. t && small) other))

read : {E : Type 0} (w : List ℕ) (r : Result ℕ E) → all_ascii_digits w ≡ true → OkIff r ((0 < length w) × (digits_value 10 w < 2 ^ 64)) (digits_value 10 w) → result_ok r ≡ number_in w
read w (Ok x) all h =
    let some = lt-ltb 0 (length w) h.0.0 in
    let small = lt-ltb (digits_value 10 w) (2 ^ 64) h.0.1 in
    ap Some h.1 ∙ sym (λ k. cond (some k && (all k && small k)) (Some (digits_value 10 w)) None)
read w (Err e) all h =
    let some = ltb 0 (length w) in
    let small = ltb (digits_value 10 w) (2 ^ 64) in
    let not : (some && (all_ascii_digits w && small)) ≡ false =
    false_from_ne_true (some && (all_ascii_digits w && small))
    (λ t. let p = and_parts some (all_ascii_digits w && small) t in
    let q = and_parts (all_ascii_digits w) small p.1 in
    h ((Decides-ltb 0 (length w)).0 p.0, (Decides-ltb (digits_value 10 w) (2 ^ 64)).0 q.1)) in
    sym (ap (λ t. cond t (Some (digits_value 10 w)) None) not)

-- what `parse` gives for decimal digits
pub number_parsed : {E : Type 0} (w : List ℕ) (r : Result ℕ E) → all_ascii_digits w ≡ true → ParsesUnsigned 64 10 w r → result_ok r ≡ number_in w
number_parsed w r all h = read w r all (parse_digits numerals 64 w r h all)
