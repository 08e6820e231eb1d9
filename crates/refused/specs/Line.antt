-- The line of a refusal.
use Rattle.std.specs.Prelude.{ℕ, List, ◌++◌, codes, decimal}

-- the number of the refusal and the two numbers that say where, in base ten
abbrev pub refused_at : (number first second : ℕ) → List ℕ
refused_at n a b = codes "refused " ++ (decimal n ++ (codes " " ++ (decimal a ++ (codes " " ++ decimal b))))
