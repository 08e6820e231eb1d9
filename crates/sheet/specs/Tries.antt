-- Tries in an order, and the first of them that fails.
use Rattle.std.specs.Prelude.{◌≡◌, ℕ, zero, suc, ◌<◌, Bool, true, false, List, [], ◌∷◌, ◌++◌, length, get_or, Some, None, Option, slice_index_or}

-- A try passes, or it fails by a fault.
abbrev pub Try : Type 0 → Type 0
Try F = Option F

-- fails by f unless the test is passed
abbrev pub must : {F : Type 0} → Bool → F → Try F
must true f = None
must false f = Some f

-- the first try, and the second only where the first passes
abbrev pub or_else : {F : Type 0} → Try F → Try F → Try F
or_else None u = u
or_else (Some f) u = Some f

-- The first fault of a list of tries.
abbrev pub first_fault : {F : Type 0} → List (Try F) → Try F
first_fault [] = None
first_fault (t ∷ ts) = or_else t (first_fault ts)

-- the tries of f 0, f 1, up to f (n - 1), one after the other
abbrev pub each : {F : Type 0} → ℕ → (ℕ → List (Try F)) → List (Try F)
each zero f = []
each (suc n) f = each n f ++ f n

-- Every try passes.
abbrev pub AllPass : {F : Type 0} → List (Try F) → Type 0
AllPass ts = (k : ℕ) → slice_index_or ts k None ≡ None

-- The fault f is the first: some try fails by it, and every earlier one passes.
pub record IsFirst {F : Type 0} (ts : List (Try F)) (f : F) : Type 0 where
  pub place : ℕ
  pub inside : place < length ts
  pub fails : get_or ts place None ≡ Some f
  pub earlier : (k : ℕ) → k < place → slice_index_or ts k None ≡ None

-- What `first_fault` means, for any list of tries: no fault where all pass, and else the first one.
abbrev pub MeansFirst : {F : Type 0} → List (Try F) → Try F → Type 0
MeansFirst ts None = AllPass ts
MeansFirst ts (Some f) = IsFirst ts f
