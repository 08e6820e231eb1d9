-- A field read, or set: the mode or the value that it stands for.
use Rattle.std.proofs.Common.{◌≡◌, ℕ, zero, suc, ◌+◌, ◌-◌, ◌<◌, ◌≤◌, Bool, true, false, cond, not, List, [], ◌∷◌, map, length, get_or, take, drop, set, ℤ, pos, ◌+ℤ◌, sym, refl, ap, ◌∙◌, ap₂, ⊎_elim, suc-le-suc, arith, Err, None, Ok, Some}
use lib.Lanes.{zip2}
use Rattle.std.proofs.lemmas.List.{length-map, length-take-le, length-drop, get_or-map, get_or_append_left, get_or-append_right, get_or-take, get_or-drop, get_or_past, drop-set-lt, drop-set-add, take-set-le}
use Rattle.std.proofs.lemmas.Simd.{get_or-zip2}
use Rattle.std.proofs.lemmas.Bool.{true≢false, cases_lt}
use Rattle.sheet.specs.Entry.{Entry}
use Rattle.sheet.specs.declared.rows.Element.{Element}
use Rattle.sheet.specs.Lookup.{held, is}
use Rattle.sheet.specs.Rules.{is_port}
use Rattle.sheet.specs.Sections.{Row, Sheet, rows, components, elements}
use Rattle.sheet.specs.Typed.{component_entry, element_entry}
use Rattle.running.specs.States.{State, mode_of, held_of, is_held, with_mode, with_value}
use Rattle.running.proofs.Components.{there_at}
use Rattle.image.specs.Fields.{mode_bits, value_bits}
use Rattle.image.specs.Reading.{widths, value_from, state_from}
use Rattle.image.proofs.Images.{placed_from}

-- a field without a held element stands for 0
unheld : (e : Entry Element) (n : ℕ) → is (held e) (λ x. not (is_port x)) ≡ false → value_from e n ≡ pos 0
unheld (Ok None) n h = refl
unheld (Err _) n h = refl
unheld (Ok (Some x)) n h = by_kind (is_port x) h
  where
    by_kind : (b : Bool) → not b ≡ false → cond b (pos 0) (x.lowest +ℤ pos n) ≡ pos 0
    by_kind true h = refl
    by_kind false h = absurd (true≢false h)

module _ (s : Sheet) where
  -- ---- the widths, by field

  pub mode_width : (c : ℕ) → c < length (rows s components) → get_or (widths s) c 0 ≡ mode_bits (component_entry (get_or (rows s components) c []))
  mode_width c l =
      let cs = rows s components in
      get_or_append_left (map (λ r. mode_bits (component_entry r)) cs) (map (λ r. value_bits (element_entry r)) (rows s elements)) 0 c (omega (arith, length-map cs (λ r. mode_bits (component_entry r))))
      ∙ get_or-map (λ r. mode_bits (component_entry r)) cs c [] 0 l

  pub value_width : (i : ℕ) → length (rows s components) ≤ i → i - length (rows s components) < length (rows s elements) → get_or (widths s) i 0 ≡ value_bits (element_entry (get_or (rows s elements) (i - length (rows s components)) []))
  value_width i le l =
      let cs = rows s components in
      let es = rows s elements in
      get_or-append_right (map (λ r. mode_bits (component_entry r)) cs) (map (λ r. value_bits (element_entry r)) es) (length cs) i 0 (length-map cs (λ r. mode_bits (component_entry r))) le
      ∙ get_or-map (λ r. value_bits (element_entry r)) es (i - length cs) [] 0 l

  pub value_width_at : (e : ℕ) → e < length (rows s elements) → get_or (widths s) (length (rows s components) + e) 0 ≡ value_bits (element_entry (get_or (rows s elements) e []))
  value_width_at e l =
      let n = length (rows s components) in
      let same : n + e - n ≡ e = omega arith in
      value_width (n + e) (omega arith) (omega (arith, l)) ∙ ap (λ k. value_bits (element_entry (get_or (rows s elements) k []))) same

  module _ (ns : List ℕ) (long : length ns ≡ length (rows s components) + length (rows s elements)) where
    -- ---- reading

    pub mode_read : (c : ℕ) → c < length (rows s components) → mode_of (state_from s ns) c ≡ get_or ns c 0
    mode_read c l = get_or-take (length (rows s components)) ns c 0 l

    pub mode_past : (c : ℕ) → length (rows s components) ≤ c → mode_of (state_from s ns) c ≡ 0
    mode_past c l = get_or_past (take (length (rows s components)) ns) c 0 (omega (arith, length-take-le (length (rows s components)) ns (omega arith)))

    pub value_read : (e : ℕ) → e < length (rows s elements) → held_of (state_from s ns) e ≡ value_from (element_entry (get_or (rows s elements) e [])) (get_or ns (length (rows s components) + e) 0)
    value_read e l =
        let n = length (rows s components) in
        get_or-zip2 (λ r n. value_from (element_entry r) n) (rows s elements) (drop n ns) e [] 0 (pos 0) l (omega (arith, length-drop n ns))
        ∙ ap (value_from (element_entry (get_or (rows s elements) e []))) (get_or-drop n ns e 0)

    -- where nothing is held, the value is 0
    pub value_nowhere : (e : ℕ) → is_held s e ≡ false → held_of (state_from s ns) e ≡ pos 0
    value_nowhere e h =
        ⊎_elim
        (λ (l : e < length (rows s elements)). value_read e l ∙ unheld (element_entry (get_or (rows s elements) e [])) (get_or ns (length (rows s components) + e) 0) (sym (ap (λ o. is o (λ x. not (is_port x))) (there_at element_entry (rows s elements) e l)) ∙ h))
        (λ (l : length (rows s elements) ≤ e). get_or_past (state_from s ns).held e (pos 0) (omega (arith, (placed_from s ns long).held_long)))
        (cases_lt e (length (rows s elements)))

    -- ---- writing

    pub mode_set : (c m : ℕ) → c < length (rows s components) → state_from s (set ns c m) ≡ with_mode (state_from s ns) c m
    mode_set c m l =
        let n = length (rows s components) in
        ap₂ {C = State} (λ x y. record { modes = x; held = zip2 (λ r n. value_from (element_entry r) n) (rows s elements) y }) (taken n ns c l (omega arith)) (drop-set-lt n ns c m l)
      where
        taken : (k : ℕ) (xs : List ℕ) (i : ℕ) → i < k → k ≤ length xs → take k (set xs i m) ≡ set (take k xs) i m
        taken zero xs i h g = absurd (omega arith)
        taken (suc k) [] i h g = absurd (omega arith)
        taken (suc k) (x ∷ xs) zero h g = refl
        taken (suc k) (x ∷ xs) (suc i) (suc-le-suc h) (suc-le-suc g) = ap (λ l. x ∷ l) (taken k xs i h g)

    pub value_set : (e n : ℕ) (v : ℤ) → e < length (rows s elements) → value_from (element_entry (get_or (rows s elements) e [])) n ≡ v → state_from s (set ns (length (rows s components) + e) n) ≡ with_value (state_from s ns) e v
    value_set e n v l is =
        let k = length (rows s components) in
        ap₂ {C = State} (λ x y. record { modes = x; held = y })
        (take-set-le k ns (k + e) n (omega arith))
        (ap (zip2 (λ r n. value_from (element_entry r) n) (rows s elements)) (drop-set-add k ns e n)
        ∙ zip_set (rows s elements) (drop k ns) e l
        ∙ ap (set (zip2 (λ r n. value_from (element_entry r) n) (rows s elements) (drop k ns)) e) is)
      where
        zip_set : (es : List Row) (xs : List ℕ) (i : ℕ) → i < length es → zip2 (λ r n. value_from (element_entry r) n) es (set xs i n) ≡ set (zip2 (λ r n. value_from (element_entry r) n) es xs) i (value_from (element_entry (get_or es i [])) n)
        zip_set [] xs i h = absurd (omega arith)
        zip_set (r ∷ es) [] i h = refl
        zip_set (r ∷ es) (x ∷ xs) zero h = refl
        zip_set (r ∷ es) (x ∷ xs) (suc i) (suc-le-suc h) = ap (λ l. value_from (element_entry r) x ∷ l) (zip_set es xs i h)
