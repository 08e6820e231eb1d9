-- Bytes written in base sixteen, two digits to a byte, the high digit first.
use Rattle.std.specs.Prelude.{◌≡◌, ℕ, ◌+◌, ◌*◌, ◌/◌, ◌%◌, ◌<◌, cond, ◌&&◌, List, [], ◌∷◌, Some, None, Option, nat_lt}
use Rattle.std.specs.Char.{digit_value, digit_char}
use Rattle.std.specs.List.{AllByRecursion}
use Rattle.session.specs.Pieces.{in_front}

-- the byte that two digits write
abbrev pub byte_of : ℕ → ℕ → Option ℕ
byte_of high low = cond (nat_lt (digit_value high) 16 && nat_lt (digit_value low) 16) (Some (digit_value high * 16 + digit_value low)) None

-- The bytes that a text writes; none where a digit is left over or a byte of the text is no digit.
abbrev pub hex_of : List ℕ → Option (List ℕ)
hex_of [] = Some []
hex_of (high ∷ []) = None
hex_of (high ∷ low ∷ more) = in_front (byte_of high low) (hex_of more)

-- The text that writes some bytes, in lower case.
abbrev pub hex_text : List ℕ → List ℕ
hex_text [] = []
hex_text (b ∷ bs) = digit_char (b / 16) ∷ digit_char (b % 16) ∷ hex_text bs

-- What is written of bytes is read as the same bytes.
abbrev pub HexReadsBack : Type 0
HexReadsBack = (bs : List ℕ) → AllByRecursion (λ b. b < 256) bs → hex_of (hex_text bs) ≡ Some bs
