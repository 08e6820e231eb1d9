-- Lists that are joined, one item more.
use Rattle.std.proofs.Common.{◌≡◌, ℕ, ◌+◌, ◌<◌, ◌≤◌, List, [], ◌∷◌, ◌++◌, length, get_or, take, drop, sym, refl, ap, ◌∙◌, append_assoc, append-nil, arith}
use Rattle.std.proofs.lemmas.List.{length-append, take_more, take-append-drop}
use Rattle.std.specs.List.{flat_map}

module _ {X : Type 0} (f : X → List ℕ) where
  pub joined_append : (xs ys : List X) → flat_map f (xs ++ ys) ≡ flat_map f xs ++ flat_map f ys
  joined_append [] ys = refl
  joined_append (x ∷ xs) ys = ap (λ l. f x ++ l) (joined_append xs ys) ∙ sym (append_assoc (f x) (flat_map f xs) (flat_map f ys))

  -- the first i items, and one more
  pub joined_take_more : (xs : List X) (i : ℕ) (d : X) → i < length xs → flat_map f (take (i + 1) xs) ≡ flat_map f (take i xs) ++ f (get_or xs i d)
  joined_take_more xs i d l =
      ap (flat_map f) (take_more xs i d l)
      ∙ joined_append (take i xs) (get_or xs i d ∷ [])
      ∙ ap (λ l. flat_map f (take i xs) ++ l) (append-nil (f (get_or xs i d)))

  pub joined_front : (xs : List X) (i : ℕ) → length (flat_map f (take i xs)) ≤ length (flat_map f xs)
  joined_front xs i =
      let whole = sym (joined_append (take i xs) (drop i xs)) ∙ ap (flat_map f) (take-append-drop i xs) in
      omega (arith, ap length whole, length-append (flat_map f (take i xs)) (flat_map f (drop i xs)))
