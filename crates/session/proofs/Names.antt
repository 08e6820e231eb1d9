-- Names of calls.
use Rattle.std.proofs.Common.{◌≡◌, ℕ, ◌≤◌, false, cond, List, [], ◌∷◌, length, None, Some, codes, sym, refl, ap, subst, arith, rules}
use Rattle.std.proofs.lemmas.Bool.{false_from_ne_true}
use Rattle.std.proofs.lemmas.Slice.Eq.{bytes_eq-Decides}
use Rattle.std.proofs.lemmas.Str.{IsUtf8-from_ascii}
use Rattle.std.specs.Str.{bytes_eq, IsAscii, IsUtf8}
use Rattle.session.specs.Calls.{call_named}
use Rattle.session.specs.declared.call.Call.TheVariants.{Alone, Pair, Home, Answer, Mode, Value, Count, Byte}

other : (name word : List ℕ) → IsAscii word → (IsUtf8 name → ⊥) → bytes_eq name word ≡ false
other name word ascii not_text =
    false_from_ne_true (bytes_eq name word) (λ t. not_text (subst IsUtf8 (sym ((bytes_eq-Decides name word).0 t)) (IsUtf8-from_ascii word ascii)))

-- bytes that are no text are no name
pub no_name : (name ns : List ℕ) → (IsUtf8 name → ⊥) → None ≡ call_named name ns
no_name name [] h = sym (ap (λ t. cond t (Some Home) None) (other name (codes "home") (search rules) h))
no_name name (n ∷ []) h =
    let alone = other name (codes "alone") (search rules) h in
    let answer = other name (codes "answer") (search rules) h in
    let mode = other name (codes "mode") (search rules) h in
    let value = other name (codes "value") (search rules) h in
    let count = other name (codes "count") (search rules) h in
    sym (λ k. cond (alone k) (Some (Alone n)) (cond (answer k) (Some (Answer n)) (cond (mode k) (Some (Mode n)) (cond (value k) (Some (Value n)) (cond (count k) (Some (Count n)) None)))))
no_name name (n ∷ m ∷ []) h = sym (ap (λ t. cond t (Some (Pair n m)) None) (other name (codes "pair") (search rules) h))
no_name name (n ∷ m ∷ k ∷ []) h = sym (ap (λ t. cond t (Some (Byte n m k)) None) (other name (codes "byte") (search rules) h))
no_name name (n ∷ m ∷ k ∷ j ∷ more) h = refl

-- an answer is asked for by one number
pub answer_by_more : (ns : List ℕ) → 2 ≤ length ns → None ≡ call_named (codes "answer") ns
answer_by_more [] long = absurd (omega arith)
answer_by_more (n ∷ []) long = absurd (omega arith)
answer_by_more (n ∷ m ∷ []) long = refl
answer_by_more (n ∷ m ∷ k ∷ []) long = refl
answer_by_more (n ∷ m ∷ k ∷ j ∷ more) long = refl
