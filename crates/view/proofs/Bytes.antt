-- A row from its bytes.
use Rattle.std.proofs.Common.{◌≡◌, ℕ, ◌+◌, ◌<◌, ◌≤◌, true, List, [], ◌∷◌, ◌++◌, length, get_or, take, set, Some, None, Option, sym, ap, ◌∙◌, ⊎_elim, arith}
use Rattle.std.proofs.lemmas.List.{length-set, take_more, take_more_set, take_all, get_or_past}
use Rattle.std.proofs.lemmas.Option.{slice_get-get_or, slice_get_past}
use Rattle.std.proofs.lemmas.Bool.{cases_lt}
use Rattle.std.specs.List.{slice_get}
use Rattle.sheet.specs.Accept.{accepted}
use Rattle.sheet.specs.Sections.{Sheet, rows, width_of}
use Rattle.sheet.proofs.Lookups.{byte_there, byte_missing}
use Rattle.sheet.proofs.Shapes.{row_width}

-- the first i bytes of a row of n bytes are in the array
pub record Taken (r bytes : List ℕ) (n i : ℕ) : Type 0 where
  pub long : length bytes ≡ n
  pub inside : i ≤ length r
  pub same : take i bytes ≡ take i r

module _ (r bytes : List ℕ) (n i : ℕ) (t : Taken r bytes n i) where
  pub taken_more : (b : ℕ) → i < n → Some b ≡ slice_get r i → Taken r (set bytes i b) n (i + 1)
  taken_more b l e =
      let p = byte_there r i b e in
      let within : i < length bytes = omega (arith, t.long) in
      record {
        long = length-set bytes i b ∙ t.long;
        inside = omega (arith, p.0);
        same = take_more_set bytes i b within ∙ (λ j. t.same j ++ (sym p.1 j ∷ [])) ∙ sym (take_more r i 0 p.0);
      }

module _ (s : Sheet) (k i n : ℕ) (a : accepted s ≡ true) (w : width_of k ≡ n) where
  -- a byte is missing: so is the row
  pub row_missing : (p : ℕ) → p < n → ◌≡◌ {A = Option ℕ} None (slice_get (get_or (rows s k) i []) p) → ◌≡◌ {A = Option (List ℕ)} None (slice_get (rows s k) i)
  row_missing p l e =
      ⊎_elim
      (λ (inside : i < length (rows s k)). absurd (let long = row_width s k i a inside in let short = byte_missing (get_or (rows s k) i []) p e in omega arith))
      (λ (past : length (rows s k) ≤ i). sym (slice_get_past (rows s k) i past))
      (cases_lt i (length (rows s k)))

  -- all bytes are there
  pub row_whole : (bytes : List ℕ) (p : ℕ) → 0 < n → n ≤ p → Taken (get_or (rows s k) i []) bytes n p → Some bytes ≡ slice_get (rows s k) i
  row_whole bytes p some l t =
      ⊎_elim
      (λ (inside : i < length (rows s k)).
      let long = row_width s k i a inside in
      let same : bytes ≡ get_or (rows s k) i [] = sym (take_all p bytes (omega (arith, t.long))) ∙ t.same ∙ take_all p (get_or (rows s k) i []) (omega (arith, w)) in
      sym (slice_get-get_or (rows s k) i [] inside ∙ ap Some (sym same)))
      (λ (past : length (rows s k) ≤ i). absurd (let none : length (get_or (rows s k) i []) ≡ 0 = ap length (get_or_past (rows s k) i [] past) in omega (arith, t.inside)))
      (cases_lt i (length (rows s k)))
