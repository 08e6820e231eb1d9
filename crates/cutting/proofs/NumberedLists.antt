-- Lists by the numbers of their places, and tests of their elements.
use Rattle.std.proofs.Common.{◌≡◌, ℕ, zero, suc, ◌+◌, ◌<◌, Bool, true, List, [], ◌∷◌, map, length, get_or, set, Some, sym, refl, ap, ◌∙◌, ⊎_elim, zero-add, arith}
use Rattle.std.proofs.lemmas.List.{set-get_or}
use Rattle.std.proofs.lemmas.Option.{slice_get-get_or}
use Rattle.std.proofs.lemmas.Bool.{false≢true, or_cases, or_left, or_right}
use Rattle.std.specs.Option.{option_map}
use Rattle.std.specs.List.{slice_get, list_any}
use Rattle.cutting.specs.Numbered.{numbered_from, numbered}

module _ {X Y : Type 0} (f : ℕ → X → Y) where
  length_from : (i : ℕ) (xs : List X) → length (numbered_from i f xs) ≡ length xs
  length_from i [] = refl
  length_from i (x ∷ xs) = ap suc (length_from (i + 1) xs)

  pub length_numbered : (xs : List X) → length (numbered f xs) ≡ length xs
  length_numbered xs = length_from 0 xs

  nth_from : (i : ℕ) (xs : List X) (n : ℕ) → slice_get (numbered_from i f xs) n ≡ option_map (f (i + n)) (slice_get xs n)
  nth_from i [] n = refl
  nth_from i (x ∷ xs) zero = ap (λ k. Some (f k x)) (omega arith)
  nth_from i (x ∷ xs) (suc n) = nth_from (i + 1) xs n ∙ ap (λ k. option_map (f k) (slice_get xs n)) (omega arith)

  -- the element at a place
  pub nth_numbered : (xs : List X) (n : ℕ) → slice_get (numbered f xs) n ≡ option_map (f n) (slice_get xs n)
  nth_numbered xs n = nth_from 0 xs n ∙ ap (λ k. option_map (f k) (slice_get xs n)) (zero-add n)

  -- the element at a place that is there, with any element for the others
  pub get_or_inside : (xs : List X) (n : ℕ) (d : X) (e : Y) → n < length xs → get_or (numbered f xs) n e ≡ f n (get_or xs n d)
  get_or_inside xs n d e l =
      let there : slice_get (numbered f xs) n ≡ Some (f n (get_or xs n d)) = nth_numbered xs n ∙ ap (option_map (f n)) (slice_get-get_or xs n d l) in
      let here = slice_get-get_or (numbered f xs) n e (omega (arith, length_numbered xs)) in
      cc

  module _ (d : X) (e : Y) (h : (k : ℕ) → f k d ≡ e) where
    get_or_from : (i : ℕ) (xs : List X) (n : ℕ) → get_or (numbered_from i f xs) n e ≡ f (i + n) (get_or xs n d)
    get_or_from i [] n = sym (h (i + n))
    get_or_from i (x ∷ xs) zero = ap (λ k. f k x) (omega arith)
    get_or_from i (x ∷ xs) (suc n) = get_or_from (i + 1) xs n ∙ ap (λ k. f k (get_or xs n d)) (omega arith)

    pub get_d_numbered : (xs : List X) (n : ℕ) → get_or (numbered f xs) n e ≡ f n (get_or xs n d)
    get_d_numbered xs n = get_or_from 0 xs n ∙ ap (λ k. f k (get_or xs n d)) (zero-add n)

  set_from : (i : ℕ) (xs : List X) (n : ℕ) (v : X) → numbered_from i f (set xs n v) ≡ set (numbered_from i f xs) n (f (i + n) v)
  set_from i [] n v = refl
  set_from i (x ∷ xs) zero v = ap (λ k. f k v ∷ numbered_from (i + 1) f xs) (omega arith)
  set_from i (x ∷ xs) (suc n) v = ap (λ ys. f i x ∷ ys) (set_from (i + 1) xs n v ∙ ap (λ k. set (numbered_from (i + 1) f xs) n (f k v)) (omega arith))

  -- one place changed
  pub numbered_set : (xs : List X) (n : ℕ) (v : X) → numbered f (set xs n v) ≡ set (numbered f xs) n (f n v)
  numbered_set xs n v = set_from 0 xs n v ∙ ap (λ k. set (numbered f xs) n (f k v)) (zero-add n)

  -- one place changed to what gives the same
  pub numbered_set_same : (xs : List X) (n : ℕ) (v : X) (e : Y) → f n v ≡ get_or (numbered f xs) n e → numbered f (set xs n v) ≡ numbered f xs
  numbered_set_same xs n v e h = numbered_set xs n v ∙ ap (set (numbered f xs) n) h ∙ set-get_or (numbered f xs) n e

module _ {X Y : Type 0} (f : ℕ → X → X) (g : Y → X) (h : ℕ → Y → Y) (e : (k : ℕ) (y : Y) → f k (g y) ≡ g (h k y)) where
  map_from : (i : ℕ) (ys : List Y) → numbered_from i f (map g ys) ≡ map g (numbered_from i h ys)
  map_from i [] = refl
  map_from i (y ∷ ys) = ap (λ x. x ∷ numbered_from (i + 1) f (map g ys)) (e i y) ∙ ap (λ xs. g (h i y) ∷ xs) (map_from (i + 1) ys)

  -- maps before and after
  pub numbered_map : (ys : List Y) → numbered f (map g ys) ≡ map g (numbered h ys)
  numbered_map ys = map_from 0 ys

-- ---- tests

-- an element that passes
pub passes_at : {X : Type 0} (p : X → Bool) (xs : List X) (i : ℕ) (x : X) → slice_get xs i ≡ Some x → p x ≡ true → list_any p xs ≡ true
passes_at p [] i x e h = absurd (let z : ◌≡◌ {A = ℕ} 0 1 = cc in omega arith)
passes_at p (y ∷ xs) zero x e h = let same : y ≡ x = cc in or_left (p y) (list_any p xs) (ap p same ∙ h)
passes_at p (y ∷ xs) (suc i) x e h = or_right (p y) (list_any p xs) (passes_at p xs i x e h)

-- where some element passes, it has a place
pub passing_place : {X : Type 0} (p : X → Bool) (xs : List X) → list_any p xs ≡ true → (i : ℕ) × (x : X) × (slice_get xs i ≡ Some x) × (p x ≡ true)
passing_place p [] h = absurd (false≢true h)
passing_place p (x ∷ xs) h =
    ⊎_elim
    (λ (y : p x ≡ true). (0, x, refl, y))
    (λ (y : list_any p xs ≡ true). let q = passing_place p xs y in (suc q.0, q.1, q.2, q.3))
    (or_cases (p x) (list_any p xs) h)
