-- The first fault of tries one after the other, and what it means.
use Rattle.std.proofs.Common.{◌≡◌, ℕ, zero, suc, ◌+◌, ◌<◌, ◌≤◌, List, [], ◌∷◌, ◌++◌, get_or, Some, None, sym, refl, ap, ◌∙◌, ⊎_elim, add-one, arith}
use Rattle.std.proofs.lemmas.Bool.{cases_lt}
use Rattle.sheet.specs.Tries.{Try, or_else, first_fault, each, AllPass, IsFirst, MeansFirst}

-- a try that fails does not pass
pub no_pass : {F A : Type 0} (f : F) → ◌≡◌ {A = Try F} (Some f) None → A
no_pass f e = absurd (let z : ◌≡◌ {A = ℕ} 0 1 = cc in omega arith)

pub or_else_parts : {F : Type 0} (t u : Try F) → or_else t u ≡ None → (t ≡ None) × (u ≡ None)
or_else_parts None u e = (refl, e)
or_else_parts (Some f) u e = no_pass f e

or_else_assoc : {F : Type 0} (t u v : Try F) → or_else t (or_else u v) ≡ or_else (or_else t u) v
or_else_assoc None u v = refl
or_else_assoc (Some f) u v = refl

-- tries one after the other
pub first_append : {F : Type 0} (ts us : List (Try F)) → first_fault (ts ++ us) ≡ or_else (first_fault ts) (first_fault us)
first_append [] us = refl
first_append (t ∷ ts) us = ap (or_else t) (first_append ts us) ∙ or_else_assoc t (first_fault ts) (first_fault us)

pub first_parts : {F : Type 0} (ts us : List (Try F)) → first_fault (ts ++ us) ≡ None → (first_fault ts ≡ None) × (first_fault us ≡ None)
first_parts ts us e = or_else_parts (first_fault ts) (first_fault us) (sym (first_append ts us) ∙ e)

pub first_both : {F : Type 0} (ts us : List (Try F)) → first_fault ts ≡ None → first_fault us ≡ None → first_fault (ts ++ us) ≡ None
first_both ts us e f = first_append ts us ∙ rw (e, f)

-- where the first list passes, the second decides
pub first_then : {F : Type 0} (ts us : List (Try F)) → first_fault ts ≡ None → first_fault (ts ++ us) ≡ first_fault us
first_then ts us e = first_append ts us ∙ rw e

-- where the first list fails, it decides
pub first_fails : {F : Type 0} (ts us : List (Try F)) (f : F) → first_fault ts ≡ Some f → first_fault (ts ++ us) ≡ Some f
first_fails ts us f e = first_append ts us ∙ rw e

-- a loop over the tries of f: one turn on, and where it stops
pub each_more : {F : Type 0} (f : ℕ → List (Try F)) (i : ℕ) → first_fault (each i f) ≡ None → first_fault (f i) ≡ None → first_fault (each (i + 1) f) ≡ None
each_more f i e h = rw add-one (first_both (each i f) (f i) e h)

pub each_stops : {F : Type 0} (f : ℕ → List (Try F)) (i n : ℕ) (x : F) → first_fault (each i f) ≡ None → first_fault (f i) ≡ Some x → i < n → first_fault (each n f) ≡ Some x
each_stops f i zero x e h l = absurd (omega arith)
each_stops f i (suc n) x e h l =
    ⊎_elim
    (λ (below : i < n). first_fails (each n f) (f n) x (each_stops f i n x e h below))
    (λ (up : n ≤ i). let same : n ≡ i = omega arith in rw same (first_then (each i f) (f i) e ∙ h))
    (cases_lt i n)

-- each of the tries passes, and the other way round
pub each_pass : {F : Type 0} (f : ℕ → List (Try F)) (n : ℕ) → ((i : ℕ) → i < n → first_fault (f i) ≡ None) → first_fault (each n f) ≡ None
each_pass f zero h = refl
each_pass f (suc n) h = first_both (each n f) (f n) (each_pass f n (λ i l. h i (omega arith))) (h n (omega arith))

pub each_passed : {F : Type 0} (f : ℕ → List (Try F)) (n i : ℕ) → first_fault (each n f) ≡ None → i < n → first_fault (f i) ≡ None
each_passed f zero i e l = absurd (omega arith)
each_passed f (suc n) i e l =
    let p = first_parts (each n f) (f n) e in
    ⊎_elim
    (λ (below : i < n). each_passed f n i p.0 below)
    (λ (up : n ≤ i). let same : i ≡ n = omega arith in rw same p.1)
    (cases_lt i n)

-- ---- what the first fault means

all_later : {F : Type 0} (ts : List (Try F)) → AllPass ts → AllPass (None ∷ ts)
all_later ts h zero = refl
all_later ts h (suc k) = h k

first_later : {F : Type 0} (ts : List (Try F)) (f : F) → IsFirst ts f → IsFirst (None ∷ ts) f
first_later ts f p =
    record {
      place = suc p.place;
      inside = omega (arith, p.inside);
      fails = p.fails;
      earlier = λ k l. before k l;
    }
  where
    before : (k : ℕ) → k < suc p.place → get_or (None ∷ ts) k None ≡ None
    before zero l = refl
    before (suc k) l = p.earlier k (omega arith)

later : {F : Type 0} (ts : List (Try F)) (v : Try F) → MeansFirst ts v → MeansFirst (None ∷ ts) v
later ts None h = all_later ts h
later ts (Some f) h = first_later ts f h

-- the first fault of any list of tries is the first
pub means_first : {F : Type 0} (ts : List (Try F)) → MeansFirst ts (first_fault ts)
means_first [] = λ k. refl
means_first (None ∷ ts) = later ts (first_fault ts) (means_first ts)
means_first (Some f ∷ ts) = record { place = 0; inside = omega arith; fails = refl; earlier = λ k l. absurd (omega arith) }
