-- A node gives the same where what it names and its operands do.
use Rattle.std.proofs.Common.{◌≡◌, ℕ, true, not, ◌&&◌, eqb, List, [], ◌∷◌, get_or, ℤ, pos, refl, ap, ◌∙◌}
use lib.Signed.{lt_z}
use Rattle.sheet.specs.declared.rows.Node.{Node}
use Rattle.sheet.specs.declared.rows.Node.TheVariants.{Constant, Element as Reading, Sum, Difference, True, Equal, Less, Not, And, InMode}
use Rattle.sheet.specs.Resting.{operands, among}
use Rattle.sheet.proofs.Rested.{among_first, among_second}
use Rattle.running.specs.declared.kinds.Worth.{Worth}
use Rattle.running.specs.declared.kinds.Worth.TheVariants.{Number, Truth}
use Rattle.running.specs.States.{State, mode_of}
use Rattle.running.specs.Values.{plus, minus, same_number, number_in, truth_in, nothing, evaluated}

module _ (v w : State) (xs ys : List ℤ) (t u : List Worth) where
  two_same : (a b : ℕ) → ((o : ℕ) → among o (a ∷ b ∷ []) ≡ true → get_or t o nothing ≡ get_or u o nothing) → (f : Worth → Worth → Worth) → f (get_or t a nothing) (get_or t b nothing) ≡ f (get_or u a nothing) (get_or u b nothing)
  two_same a b same f = ap (λ x. f x (get_or t b nothing)) (same a (among_first a (b ∷ []))) ∙ ap (f (get_or u a nothing)) (same b (among_second a b))

  pub evaluated_same : (x : Node) → ((e : ℕ) → x ≡ Reading e → get_or xs e (pos 0) ≡ get_or ys e (pos 0)) → ((c m : ℕ) → x ≡ InMode c m → eqb (mode_of v c) m ≡ eqb (mode_of w c) m) → ((o : ℕ) → among o (operands x) ≡ true → get_or t o nothing ≡ get_or u o nothing) → evaluated v xs t x ≡ evaluated w ys u x
  evaluated_same (Constant z) he hm ho = refl
  evaluated_same (Reading e) he hm ho = ap Number (he e refl)
  evaluated_same (Sum a b) he hm ho = two_same a b ho (λ x y. Number (plus (number_in x) (number_in y)))
  evaluated_same (Difference a b) he hm ho = two_same a b ho (λ x y. Number (minus (number_in x) (number_in y)))
  evaluated_same True he hm ho = refl
  evaluated_same (Equal a b) he hm ho = two_same a b ho (λ x y. Truth (same_number (number_in x) (number_in y)))
  evaluated_same (Less a b) he hm ho = two_same a b ho (λ x y. Truth (lt_z (number_in x) (number_in y)))
  evaluated_same (Not a) he hm ho = ap (λ x. Truth (not (truth_in x))) (ho a (among_first a []))
  evaluated_same (And a b) he hm ho = two_same a b ho (λ x y. Truth (truth_in x && truth_in y))
  evaluated_same (InMode c m) he hm ho = ap Truth (hm c m refl)
