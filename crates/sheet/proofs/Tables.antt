-- The cells of a table.
use Rattle.std.proofs.Common.{◌≡◌, ℕ, zero, suc, ◌+◌, ◌<◌, ◌≤◌, List, [], ◌∷◌, ◌++◌, length, get_or, take, sym, refl, ap, ◌∙◌, ⊎_elim, add-one, arith}
use Rattle.std.proofs.lemmas.List.{length_push, get_or_push, get_or_append_left, get_or_past, take-append-le, take_all}
use Rattle.std.proofs.lemmas.Bool.{cases_lt}
use Rattle.sheet.specs.Tables.{grow, cell}

module _ {X : Type 0} (f : ℕ → List X → X) where
  pub length_grow : (n : ℕ) → length (grow f n) ≡ n
  length_grow zero = refl
  length_grow (suc n) = length_push (grow f n) (f n (grow f n)) ∙ omega (arith, length_grow n)

  -- each cell, in a table that has it
  pub grow_at : (n k : ℕ) (d : X) → k < n → get_or (grow f n) k d ≡ cell f k
  grow_at zero k d l = absurd (omega arith)
  grow_at (suc n) k d l =
      ⊎_elim
      (λ (below : k < n). get_or_append_left (grow f n) (f n (grow f n) ∷ []) d k (omega (arith, length_grow n)) ∙ grow_at n k d below)
      (λ (up : n ≤ k). let same : k ≡ n = omega arith in rw same (get_or_push (grow f n) (f n (grow f n)) d n (length_grow n)))
      (cases_lt k n)

  -- past a table there is nothing
  pub grow_past : (n k : ℕ) (d : X) → n ≤ k → get_or (grow f n) k d ≡ d
  grow_past n k d l = get_or_past (grow f n) k d (omega (arith, length_grow n))

  -- one cell more
  pub grow_more : (i : ℕ) (t : List X) (x : X) → t ≡ grow f i → x ≡ f i t → t ++ (x ∷ []) ≡ grow f (i + 1)
  grow_more i t x e h = rw add-one ((λ j. t ++ (h j ∷ [])) ∙ ap (λ l. l ++ (f i l ∷ [])) e)

  -- the first cells of a longer table
  pub take_grow : (n k : ℕ) → k ≤ n → take k (grow f n) ≡ grow f k
  take_grow zero k l = let none : k ≡ 0 = omega arith in rw none
  take_grow (suc n) k l =
      ⊎_elim
      (λ (below : k < suc n). take-append-le k (grow f n) (f n (grow f n) ∷ []) (omega (arith, length_grow n)) ∙ take_grow n k (omega arith))
      (λ (all : suc n ≤ k). let same : k ≡ suc n = omega arith in rw same (take_all (suc n) (grow f (suc n)) (omega (arith, length_grow (suc n)))))
      (cases_lt k (suc n))

-- ---- two tables agree at the places of P, if each cell there does once the cells before it do

module _ {X : Type 0} (P : ℕ → Type 0) (f g : ℕ → List X → X) (d : X) where
  -- the tables of the first n cells agree
  abbrev pub Agrees : ℕ → Type 0
  Agrees n = (i : ℕ) → P i → get_or (grow f n) i d ≡ get_or (grow g n) i d

  agrees_if : (n : ℕ) → ((i : ℕ) → i < n → P i → cell f i ≡ cell g i) → Agrees n
  agrees_if n same i p =
      ⊎_elim
      (λ (b : i < n). grow_at f n i d b ∙ same i b p ∙ sym (grow_at g n i d b))
      (λ (b : n ≤ i). grow_past f n i d b ∙ sym (grow_past g n i d b))
      (cases_lt i n)

  module _ (step : (n : ℕ) → P n → Agrees n → cell f n ≡ cell g n) where
    cells_below : (k n : ℕ) → n < k → P n → cell f n ≡ cell g n
    cells_below zero n l p = absurd (omega arith)
    cells_below (suc k) n l p =
        step n p (agrees_if n (λ i b. cells_below k i (omega arith)))

    pub cell_same : (n : ℕ) → P n → cell f n ≡ cell g n
    cell_same n p = cells_below (suc n) n (omega arith) p

    pub tables_same : (n : ℕ) → Agrees n
    tables_same n = agrees_if n (λ i b. cell_same i)
