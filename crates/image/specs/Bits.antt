-- Bit strings as numbers: bit i of the string is bit i of the number, and eight bits make a byte, the lowest first.
use Rattle.std.specs.Prelude.{ℕ, zero, suc, ◌+◌, ◌-◌, ◌*◌, ◌/◌, ◌%◌, ◌^◌, List, [], ◌∷◌}
use Rattle.std.specs.Int.Count.{count_leading_zeros}

-- the bit length of a number below 2 ^ 32; that of 0 is 0
abbrev pub bit_length : ℕ → ℕ
bit_length n = 32 - count_leading_zeros 32 n

-- the number that bytes write, the lowest byte first
abbrev pub number_of : List ℕ → ℕ
number_of [] = 0
number_of (b ∷ bs) = b % 256 + 256 * number_of bs

-- the lowest bytes of a number, as many as are wanted
abbrev pub low_bytes : (count number : ℕ) → List ℕ
low_bytes zero n = []
low_bytes (suc k) n = n % 256 ∷ low_bytes k (n / 256)

-- the bytes that some bits need
abbrev pub bytes_for : ℕ → ℕ
bytes_for bits = (bits + 7) / 8

-- the number in some bits of a number, from a place on
abbrev pub part : (number place bits : ℕ) → ℕ
part n at w = n / 2 ^ at % 2 ^ w

-- the same number with another number in those bits
abbrev pub put : (number place bits value : ℕ) → ℕ
put n at w v = n - part n at w * 2 ^ at + v * 2 ^ at
