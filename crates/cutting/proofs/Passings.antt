-- What is there and passes a test.
use Rattle.std.proofs.Common.{◌≡◌, Bool, true, false, cond, is_some, Some, None, Option, sym, refl, ap, ◌∙◌, ⊎_elim}
use Rattle.std.proofs.lemmas.Bool.{false≢true, cases_Bool, cond-true, cond-false}
use Rattle.std.specs.Option.{option_map}
use Rattle.sheet.proofs.Firsts.{no_pass}
use Rattle.cutting.proofs.CutRows.{passing}

-- the second choice is the first
pub either_same : {X : Type 0} (b : Bool) (x : X) → cond b x x ≡ x
either_same true x = refl
either_same false x = refl

pub found : {X : Type 0} (o : Option X) → is_some o ≡ true → (x : X) × (o ≡ Some x)
found None e = absurd (false≢true e)
found (Some x) e = (x, refl)

pub found_some : {X : Type 0} (o : Option X) (x : X) → o ≡ Some x → is_some o ≡ true
found_some o x e = ap is_some e

module _ {X : Type 0} (test : X → Bool) where
  -- what passes was there
  pub passing_found : (o : Option X) (x : X) → passing test o ≡ Some x → (o ≡ Some x) × (test x ≡ true)
  passing_found None x e = no_pass x (sym e)
  passing_found (Some y) x e =
      ⊎_elim
      (λ (h : test y ≡ true). let f : Some y ≡ Some x = sym (cond-true (test y) (Some y) None h) ∙ e in let same : y ≡ x = cc in (f, sym (ap test same) ∙ h))
      (λ (h : test y ≡ false). no_pass x (sym e ∙ cond-false (test y) (Some y) None h))
      (cases_Bool (test y))

  pub passing_kept : (o : Option X) (x : X) → o ≡ Some x → test x ≡ true → passing test o ≡ Some x
  passing_kept o x e h = ap (passing test) e ∙ cond-true (test x) (Some x) None h

-- a test that does not look at what is there
module _ {X : Type 0} (b : Bool) where
  pub all_pass : (o : Option X) → b ≡ true → passing (λ x. b) o ≡ o
  all_pass None h = refl
  all_pass (Some x) h = cond-true b (Some x) None h

  pub nothing_passes : (o : Option X) → b ≡ false → passing (λ x. b) o ≡ None
  nothing_passes None h = refl
  nothing_passes (Some x) h = cond-false b (Some x) None h

pub mapped_found : {X Y : Type 0} (f : X → Y) (o : Option X) (y : Y) → option_map f o ≡ Some y → (x : X) × (o ≡ Some x) × (f x ≡ y)
mapped_found f None y e = no_pass y (sym e)
mapped_found f (Some x) y e = (x, refl, cc)
