-- What writing to the front of a buffer leaves, and what it answers.
use Rattle.std.specs.Prelude.{◌≡◌, ℕ, ◌<◌, ◌≤◌, List, ◌++◌, length, drop, Ok, Err, Result}
use Rattle.writer.specs.declared.fault.TooShort.{TooShort}

-- The number of the refusal of a buffer that is too short.
abbrev pub too_short_number : TooShort → ℕ
too_short_number f = 15

-- bs was to be written to the front of a buffer: where it has room, bs stands at the front, what was behind it stays, and
-- the answer is the length; else nothing is written, and the answer is the length that is needed.
pub record Written (bs before behind : List ℕ) (r : Result ℕ TooShort) : Type 0 where
  pub fits : length bs ≤ length before → (r ≡ Ok (length bs)) × (behind ≡ bs ++ drop (length bs) before)
  pub too_short : length before < length bs → (r ≡ Err (record { needed = length bs })) × (behind ≡ before)
