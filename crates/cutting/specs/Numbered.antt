-- Lists by the numbers of their places.
use Rattle.std.specs.Prelude.{ℕ, ◌+◌, List, [], ◌∷◌}

-- f of each element and its number, the first of which is i
abbrev pub numbered_from : {X Y : Type 0} → ℕ → (ℕ → X → Y) → List X → List Y
numbered_from i f [] = []
numbered_from i f (x ∷ xs) = f i x ∷ numbered_from (i + 1) f xs

-- f of each element and its number
abbrev pub numbered : {X Y : Type 0} → (ℕ → X → Y) → List X → List Y
numbered f xs = numbered_from 0 f xs
