-- Lines that open bytes.
use Rattle.std.specs.Prelude.{ℕ, cond, List, [], ◌∷◌, None, codes, Option}
use Rattle.std.specs.Str.{bytes_eq}
use Rattle.session.specs.Sixteen.{hex_of}

-- The bytes that a line opens: it is the word open, a blank and the bytes in base sixteen.
abbrev pub opened : List ℕ → Option (List ℕ)
opened [] = None
opened (o ∷ []) = None
opened (o ∷ p ∷ []) = None
opened (o ∷ p ∷ e ∷ []) = None
opened (o ∷ p ∷ e ∷ n ∷ []) = None
opened (o ∷ p ∷ e ∷ n ∷ blank ∷ digits) = cond (bytes_eq (o ∷ p ∷ e ∷ n ∷ blank ∷ []) (codes "open ")) (hex_of digits) None
