-- Lines that are added one by one.
use Rattle.std.proofs.Common.{◌≡◌, ℕ, ◌+◌, List, ◌++◌, ◌∙◌, append_assoc, add-one}
use Rattle.report.specs.Text.{lines}

-- one line more
pub line_more : (start was now line : List ℕ) (f : ℕ → List ℕ) (i : ℕ) → was ≡ start ++ lines i f → now ≡ was ++ line → line ≡ f i → now ≡ start ++ lines (i + 1) f
line_more start was now line f i inv added is =
    rw add-one (added ∙ (λ k. inv k ++ is k) ∙ append_assoc start (lines i f) (f i))
