-- What a line of a session asks.
use Rattle.std.specs.Prelude.{ℕ, ◌^◌, cond, ◌&&◌, List, [], ◌∷◌, length, Some, None, codes, Option, ◌==◌, nat_lt}
use Rattle.std.specs.Option.{option_map, option_flatten}
use Rattle.std.specs.List.{slice_split}
use Rattle.std.specs.Str.Parse.{digits_value}
use Rattle.std.specs.Str.{all_ascii_digits, bytes_eq}
use Rattle.session.specs.Pieces.{in_front}
use Rattle.session.specs.declared.call.Call.{Call}
use Rattle.session.specs.declared.call.Call.TheVariants.{Alone, Pair, Home, Answer, Mode, Value, Count, Byte}

-- the words between the blanks, of which there is one more than there are blanks
abbrev pub words : List ℕ → List (List ℕ)
words line = slice_split (λ c. c == 32) line

-- the number that a word writes in base ten, where it is below 2 ^ 64
abbrev pub number_in : List ℕ → Option ℕ
number_in w = cond (nat_lt 0 (length w) && (all_ascii_digits w && nat_lt (digits_value 10 w) (2 ^ 64))) (Some (digits_value 10 w)) None

-- the numbers that some words write
abbrev pub numbers_in : List (List ℕ) → Option (List ℕ)
numbers_in [] = Some []
numbers_in (w ∷ ws) = in_front (number_in w) (numbers_in ws)

-- the call of a name, where it is the one that is wanted
abbrev pub call_if : List ℕ → List ℕ → Call → Option Call → Option Call
call_if name wanted call other = cond (bytes_eq name wanted) (Some call) other

-- the call of a name with some numbers
abbrev pub call_named : List ℕ → List ℕ → Option Call
call_named name [] = call_if name (codes "home") Home None
call_named name (n ∷ []) =
    call_if name (codes "alone") (Alone n) (
    call_if name (codes "answer") (Answer n) (
    call_if name (codes "mode") (Mode n) (
    call_if name (codes "value") (Value n) (
    call_if name (codes "count") (Count n) None))))
call_named name (n ∷ m ∷ []) = call_if name (codes "pair") (Pair n m) None
call_named name (n ∷ m ∷ k ∷ []) = call_if name (codes "byte") (Byte n m k) None
call_named name (n ∷ m ∷ k ∷ j ∷ more) = None

-- the call of a name with the numbers that are there
abbrev pub call_with : List ℕ → Option (List ℕ) → Option Call
call_with name ns = option_flatten (option_map (call_named name) ns)

-- the first word is a name, and the others are numbers
abbrev pub meant : List (List ℕ) → Option Call
meant [] = None
meant (name ∷ ws) = call_with name (numbers_in ws)

-- What a line asks; none where it is no call.
abbrev pub call_of : List ℕ → Option Call
call_of line = meant (words line)
