-- What putting bytes into a buffer that is filled from its front leaves.
use Rattle.std.specs.Prelude.{◌≡◌, ℕ, ◌+◌, List, ◌++◌, length, take, drop}
use Rattle.writer.specs.declared.filling.Filling.{Filling}

-- a buffer after bs is put into it from a place on
abbrev pub over : List ℕ → ℕ → List ℕ → List ℕ
over out from bs = take from out ++ (bs ++ drop (from + length bs) out)

-- bs was put behind what was filled, in the same buffer
pub record Filled (before : Filling) (bs : List ℕ) (behind : Filling) : Type 0 where
  pub same : behind.buffer.ghost_name ≡ before.buffer.ghost_name
  pub filled : behind.filled ≡ before.filled + length bs
  pub holds : behind.buffer.now ≡ over before.buffer.now before.filled bs
