-- Lines that are cut into words, and words that are read as numbers one by one.
use Rattle.std.proofs.Common.{◌≡◌, ℕ, List, [], ◌∷◌, ◌++◌, length, Some, None, Option, sym, refl, ap, ◌∙◌, append_assoc, append-nil, arith}
use Rattle.std.proofs.lemmas.Iterator.{YieldsList}
use Rattle.std.specs.Option.{option_map}
use Rattle.session.specs.Pieces.{in_front}
use Rattle.session.specs.Calls.{words, number_in, numbers_in, call_named, call_with, meant, call_of}
use Rattle.session.specs.declared.call.Call.{Call}

-- an item that comes is the first of those that are left
pub one_more : {S A B : Type 0} {steps : S → Option A → S → Type 0} {v : A → B} {s : S} {ys : List B} (t : S) (x : A) → YieldsList steps v s ys → steps s (Some x) t → (zs : List B) × (ys ≡ v x ∷ zs) × YieldsList steps v t zs
one_more {ys = []} t x all k = absurd (all.runs x t k)
one_more {ys = y ∷ ys} t x all k = let m = all.runs.1 x t k in (ys, ap (λ z. z ∷ ys) (sym m.0), record { runs = m.1 })

-- no item is left
pub no_more : {S A B : Type 0} {steps : S → Option A → S → Type 0} {v : A → B} {s : S} {ys : List B} (t : S) → YieldsList steps v s ys → steps s None t → ys ≡ []
no_more {ys = []} t all k = refl
no_more {ys = y ∷ ys} t all k = absurd (all.runs.0 t k)

-- the call of a line, by its name, the numbers that are read and the words that are left
abbrev pub call_behind : (name items : List ℕ) → List (List ℕ) → Option Call
call_behind name items ws = call_with name (option_map (λ ns. items ++ ns) (numbers_in ws))

nothing_in_front : (o : Option (List ℕ)) → option_map (λ ns. [] ++ ns) o ≡ o
nothing_in_front None = refl
nothing_in_front (Some ns) = refl

-- the name is read
pub name_first : (line name items : List ℕ) (ws : List (List ℕ)) → words line ≡ name ∷ ws → items ≡ [] → call_of line ≡ call_behind name items ws
name_first line name items ws first none =
    ap meant first
    ∙ ap (call_with name) (sym (nothing_in_front (numbers_in ws)))
    ∙ ap (λ l. call_behind name l ws) (sym none)

-- a number that comes to those in front
front_more : (front : List ℕ) (n : ℕ) (ns : Option (List ℕ)) → option_map (λ l. front ++ l) (in_front (Some n) ns) ≡ option_map (λ l. (front ++ (n ∷ [])) ++ l) ns
front_more front n None = refl
front_more front n (Some ns) = ap Some (sym (append_assoc front (n ∷ []) ns))

-- one word read as a number
pub number_more : (name items now w : List ℕ) (n : ℕ) (ws more : List (List ℕ)) (whole : Option Call) → ws ≡ w ∷ more → Some n ≡ number_in w → now ≡ items ++ (n ∷ []) → whole ≡ call_behind name items ws → whole ≡ call_behind name now more
number_more name items now w n ws more whole first number grown inv =
    inv
    ∙ ap (call_behind name items) first
    ∙ ap (λ o. call_with name (option_map (λ l. items ++ l) (in_front o (numbers_in more)))) (sym number)
    ∙ ap (call_with name) (front_more items n (numbers_in more))
    ∙ ap (λ f. call_behind name f more) (sym grown)

-- a word that is no number
pub number_other : (name items w : List ℕ) (ws more : List (List ℕ)) (whole : Option Call) → ws ≡ w ∷ more → None ≡ number_in w → whole ≡ call_behind name items ws → None ≡ whole
number_other name items w ws more whole first other inv =
    sym (inv
    ∙ ap (call_behind name items) first
    ∙ ap (λ o. call_with name (option_map (λ l. items ++ l) (in_front o (numbers_in more)))) (sym other))

four_or_more : (name items : List ℕ) (n : ℕ) (ns : Option (List ℕ)) → length items ≡ 3 → call_with name (option_map (λ l. items ++ l) (in_front (Some n) ns)) ≡ None
four_or_more name items n None three = refl
four_or_more name [] n (Some ns) three = absurd (omega arith)
four_or_more name (a ∷ []) n (Some ns) three = absurd (omega arith)
four_or_more name (a ∷ b ∷ []) n (Some ns) three = absurd (omega arith)
four_or_more name (a ∷ b ∷ c ∷ []) n (Some ns) three = refl
four_or_more name (a ∷ b ∷ c ∷ d ∷ items) n (Some ns) three = refl

-- a number behind three others
pub number_over : (name items w : List ℕ) (n : ℕ) (ws more : List (List ℕ)) (whole : Option Call) → length items ≡ 3 → ws ≡ w ∷ more → Some n ≡ number_in w → whole ≡ call_behind name items ws → None ≡ whole
number_over name items w n ws more whole three first number inv =
    sym (inv
    ∙ ap (call_behind name items) first
    ∙ ap (λ o. call_with name (option_map (λ l. items ++ l) (in_front o (numbers_in more)))) (sym number)
    ∙ four_or_more name items n (numbers_in more) three)

-- there are no more words
pub numbers_all : (name items : List ℕ) (ws : List (List ℕ)) (whole : Option Call) → ws ≡ [] → whole ≡ call_behind name items ws → call_named name items ≡ whole
numbers_all name items ws whole none inv =
    sym (inv ∙ ap (call_behind name items) none ∙ ap (call_named name) (append-nil items))
