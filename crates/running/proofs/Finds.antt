-- Tests on what may be there, and tries of tests.
use Rattle.std.proofs.Common.{◌≡◌, Bool, true, false, not, is_some, Some, None, Option, refl}
use Rattle.std.proofs.lemmas.Bool.{false≢true}
use Rattle.sheet.specs.Tries.{Try, must, or_else}
use Rattle.sheet.proofs.Firsts.{no_pass}

-- a test that cannot be passed
pub not_passed : (b : Bool) → (b ≡ true → ⊥) → b ≡ false
not_passed true h = absurd (h refl)
not_passed false h = refl

pub same_found : {X : Type 0} (o : Option X) (x y : X) → o ≡ Some x → o ≡ Some y → x ≡ y
same_found o x y e f = cc

pub none_there : {X : Type 0} (o : Option X) → not (is_some o) ≡ true → o ≡ None
none_there None e = refl
none_there (Some x) e = absurd (false≢true e)

-- a test that is tried first
pub must_then : {F : Type 0} (b : Bool) (f : F) (t : Try F) → or_else (must b f) t ≡ None → (b ≡ true) × (t ≡ None)
must_then true f t e = (refl, e)
must_then false f t e = no_pass f e

pub must_first : {F : Type 0} (b : Bool) (f : F) (t : Try F) → b ≡ true → t ≡ None → or_else (must b f) t ≡ None
must_first b f t e h = rw e h
