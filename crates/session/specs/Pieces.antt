-- Numbers that may be missing.
use Rattle.std.specs.Prelude.{ℕ, List, ◌∷◌, Some, None, Option}

-- a number in front of more, where all are there
abbrev pub in_front : Option ℕ → Option (List ℕ) → Option (List ℕ)
in_front None ns = None
in_front (Some n) None = None
in_front (Some n) (Some ns) = Some (n ∷ ns)
