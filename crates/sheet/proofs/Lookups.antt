-- Rows by their numbers.
use Rattle.std.proofs.Common.{◌≡◌, ℕ, zero, suc, ◌<◌, ◌≤◌, Bool, true, List, [], ◌∷◌, length, get_or, Some, None, Option, sym, refl, ap, ◌∙◌, arith}
use Rattle.std.proofs.lemmas.Option.{slice_get_read, slice_get_past}
use Rattle.std.proofs.lemmas.Bool.{false≢true}
use Rattle.std.specs.List.{slice_get}
use Rattle.sheet.specs.Entry.{Entry}
use Rattle.sheet.specs.Sections.{Row}
use Rattle.sheet.specs.Lookup.{held, read_by, there, is}

-- a row that is read holds what its bytes say
pub there_read : {X : Type 0} (entry : Row → Entry X) (rs : List Row) (i : ℕ) (r : Row) → i < length rs → r ≡ get_or rs i r → there entry rs i ≡ held (entry r)
there_read entry rs i r l is = ap (read_by entry) (slice_get_read rs (length rs) i r refl l is)

-- past the end there is nothing
pub there_past : {X : Type 0} (entry : Row → Entry X) (rs : List Row) (i : ℕ) → length rs ≤ i → there entry rs i ≡ None
there_past entry rs i l = ap (read_by entry) (slice_get_past rs i l)

-- what a byte of a row says of its place
pub byte_there : (xs : List ℕ) (i b : ℕ) → Some b ≡ slice_get xs i → (i < length xs) × (get_or xs i 0 ≡ b)
byte_there [] i b e = absurd (let z : ◌≡◌ {A = ℕ} 0 1 = cc in omega arith)
byte_there (x ∷ xs) zero b e = (omega arith, cc)
byte_there (x ∷ xs) (suc i) b e = let p = byte_there xs i b e in (omega (arith, p.0), p.1)

pub byte_missing : (xs : List ℕ) (i : ℕ) → ◌≡◌ {A = Option ℕ} None (slice_get xs i) → length xs ≤ i
byte_missing [] i e = omega arith
byte_missing (x ∷ xs) zero e = absurd (let z : ◌≡◌ {A = ℕ} 0 1 = cc in omega arith)
byte_missing (x ∷ xs) (suc i) e = let p = byte_missing xs i e in omega arith

-- ---- tests on what may be there

-- what passes a test is there
pub is_cases : {X : Type 0} (o : Option X) (p : X → Bool) → is o p ≡ true → (x : X) × (o ≡ Some x) × (p x ≡ true)
is_cases None p e = absurd (false≢true e)
is_cases (Some x) p e = (x, refl, e)

-- what is there passes the test
pub is_at : {X : Type 0} (o : Option X) (p : X → Bool) (x : X) → o ≡ Some x → is o p ≡ true → p x ≡ true
is_at o p x e h = sym (ap (λ o. is o p) e) ∙ h

pub is_from : {X : Type 0} (o : Option X) (p : X → Bool) (x : X) → o ≡ Some x → p x ≡ true → is o p ≡ true
is_from o p x e h = ap (λ o. is o p) e ∙ h
