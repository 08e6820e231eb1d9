-- Tables in which each cell is worked out once, from the cells before it.
use Rattle.std.specs.Prelude.{ℕ, zero, suc, List, [], ◌∷◌, ◌++◌}

-- the first n cells, where f gives a cell from its number and the cells before it
abbrev pub grow : {X : Type 0} → (ℕ → List X → X) → ℕ → List X
grow f zero = []
grow f (suc n) = grow f n ++ (f n (grow f n) ∷ [])

-- the cell n
abbrev pub cell : {X : Type 0} → (ℕ → List X → X) → ℕ → X
cell f n = f n (grow f n)
