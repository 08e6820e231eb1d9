-- The bytes and counts of a cut sheet.
use Rattle.std.proofs.Common.{◌≡◌, ℕ, zero, suc, ◌<◌, ◌≤◌, Bool, true, false, cond, eqb, List, [], length, get_or, Some, None, Option, sym, refl, ap, ◌∙◌, ⊎_elim, arith}
use Rattle.std.proofs.lemmas.List.{get_or_past}
use Rattle.std.proofs.lemmas.Option.{slice_get-get_or, slice_get_past}
use Rattle.std.proofs.lemmas.Bool.{cases_lt}
use Rattle.std.specs.Option.{option_map}
use Rattle.std.specs.List.{slice_get}
use Rattle.sheet.specs.Entry.{Entry}
use Rattle.sheet.specs.Accept.{accepted}
use Rattle.sheet.specs.Cells.{count_of, byte_of}
use Rattle.sheet.specs.Lookup.{held, read_by, there, is}
use Rattle.sheet.specs.Sections.{Row, Sheet, rows, width_of, components, elements, events, nodes, flows, connections, transitions, settings, questions}
use Rattle.sheet.specs.Typed.{at, element_entry, event_entry, node_entry, flow_entry, connection_entry, transition_entry, setting_entry, question_entry}
use Rattle.sheet.proofs.Shapes.{row_width, nine_sections, sized}
use Rattle.cutting.specs.declared.kinds.Thing.TheVariants.{Element as KeptElement, Event as KeptEvent}
use Rattle.cutting.specs.CutCells.{blank_byte, component_byte, cut_byte}
use Rattle.cutting.specs.CutSheet.{blank_row, stays_if, shown_mode, keeps_events, keeps_setting, is_used, with_shown_to, cut_component, cut_transition, cut_sheet}
use Rattle.cutting.specs.Kept.{Kept, Chosen, keeps_from}
use Rattle.cutting.specs.Numbered.{numbered}
use Rattle.cutting.proofs.NumberedLists.{length_numbered, get_or_inside}

-- ---- lists of one length

mapped_none : {X Y : Type 0} (f : X → Y) (o : Option X) → o ≡ None → ◌≡◌ {A = Option Y} None (option_map f o)
mapped_none f o e = sym (ap (option_map f) e)

-- places of two lists of one length, where each element of the one is made from that of the other
pub nth_made : (xs ys : List ℕ) (f : ℕ → ℕ) (p : ℕ) → length ys ≡ length xs → (p < length xs → get_or ys p 0 ≡ f (get_or xs p 0)) → slice_get ys p ≡ option_map f (slice_get xs p)
nth_made xs ys f p l h =
    ⊎_elim
    (λ (b : p < length xs). slice_get-get_or ys p 0 (omega arith) ∙ ap Some (h b) ∙ sym (ap (option_map f) (slice_get-get_or xs p 0 b)))
    (λ (b : length xs ≤ p). slice_get_past ys p (omega arith) ∙ mapped_none f (slice_get xs p) (slice_get_past xs p b))
    (cases_lt p (length xs))

-- ---- one row

blank_long : (k : ℕ) → k < 9 → length (blank_row k) ≡ width_of k
blank_long zero l = refl
blank_long (suc zero) l = refl
blank_long (suc (suc zero)) l = refl
blank_long (suc (suc (suc zero))) l = refl
blank_long (suc (suc (suc (suc zero)))) l = refl
blank_long (suc (suc (suc (suc (suc zero))))) l = refl
blank_long (suc (suc (suc (suc (suc (suc zero)))))) l = refl
blank_long (suc (suc (suc (suc (suc (suc (suc zero))))))) l = refl
blank_long (suc (suc (suc (suc (suc (suc (suc (suc zero)))))))) l = refl
blank_long (suc (suc (suc (suc (suc (suc (suc (suc (suc k))))))))) l = absurd (omega arith)

module _ (k : ℕ) (section : k < 9) (r : Row) (long : length r ≡ width_of k) (p : ℕ) where
  -- a row that stays or becomes blank
  nth_if : (b : Bool) → slice_get (cond b r (blank_row k)) p ≡ option_map (λ x. cond b x (blank_byte k p)) (slice_get r p)
  nth_if true = nth_made r r (λ x. x) p refl (λ _. refl)
  nth_if false = nth_made r (blank_row k) (λ x. blank_byte k p) p (blank_long k section ∙ sym long) (λ _. refl)

  nth_stays : {X : Type 0} (entry : Row → Entry X) (test : X → Bool) (o : Option X) → o ≡ held (entry r) → slice_get (stays_if k entry test r) p ≡ option_map (λ x. cond (is o test) x (blank_byte k p)) (slice_get r p)
  nth_stays entry test o e = nth_if (is (held (entry r)) test) ∙ ap (λ o. option_map (λ x. cond (is o test) x (blank_byte k p)) (slice_get r p)) (sym e)

module _ (k : Kept) (r : Row) (p : ℕ) where
  component_place : (c : ℕ) → length r ≡ 2 → slice_get (cut_component k c r) p ≡ option_map (component_byte k c p) (slice_get r p)
  component_place c l = nth_made r (cut_component k c r) (component_byte k c p) p (sym l) (by p)
    where
      by : (p : ℕ) → p < length r → get_or (cut_component k c r) p 0 ≡ component_byte k c p (get_or r p 0)
      by zero b = refl
      by (suc zero) b = refl
      by (suc (suc p)) b = absurd (omega arith)

  transition_place : length r ≡ 5 → slice_get (with_shown_to k r) p ≡ option_map (λ b. cond (eqb p 2) (shown_mode k (at r 0) b) b) (slice_get r p)
  transition_place l = nth_made r (with_shown_to k r) (λ b. cond (eqb p 2) (shown_mode k (at r 0) b) b) p (sym l) (by p)
    where
      by : (p : ℕ) → p < length r → get_or (with_shown_to k r) p 0 ≡ cond (eqb p 2) (shown_mode k (at r 0) (get_or r p 0)) (get_or r p 0)
      by zero b = refl
      by (suc zero) b = refl
      by (suc (suc zero)) b = refl
      by (suc (suc (suc zero))) b = refl
      by (suc (suc (suc (suc zero)))) b = refl
      by (suc (suc (suc (suc (suc p))))) b = absurd (omega arith)

-- ---- rows by their numbers

-- row i of numbered rows, byte by byte
row_places : (f : ℕ → Row → Row) (rs : List Row) (i p : ℕ) (g : ℕ → ℕ) → ((r : Row) → r ≡ get_or rs i [] → slice_get rs i ≡ Some r → slice_get (f i r) p ≡ option_map g (slice_get r p)) → slice_get (get_or (numbered f rs) i []) p ≡ option_map g (slice_get (get_or rs i []) p)
row_places f rs i p g h =
    ⊎_elim
    (λ (b : i < length rs).
    let r = get_or rs i [] in
    ap (λ r. slice_get r p) (get_or_inside f rs i [] [] b) ∙ h r refl (slice_get-get_or rs i [] b))
    (λ (b : length rs ≤ i).
    ap (λ r. slice_get r p) (get_or_past (numbered f rs) i [] (omega (arith, length_numbered f rs)))
    ∙ sym (ap (λ r. option_map g (slice_get r p)) (get_or_past rs i [] b)))
    (cases_lt i (length rs))

module _ (k : Kept) (chosen : Chosen) (s : Sheet) (a : accepted s ≡ true) (i p : ℕ) where
  -- a row of section j that is there has its width
  wide_row : (j : ℕ) (r : Row) → r ≡ get_or (rows s j) i [] → slice_get (rows s j) i ≡ Some r → length r ≡ width_of j
  wide_row j r e t =
      ⊎_elim
      (λ (b : i < length (rows s j)). ap length e ∙ row_width s j i a b)
      (λ (b : length (rows s j) ≤ i). absurd (let none = slice_get_past (rows s j) i b in let z : ◌≡◌ {A = ℕ} 0 1 = cc in omega arith))
      (cases_lt i (length (rows s j)))

  -- a section whose rows stay or become blank
  staying : {X : Type 0} (j : ℕ) → j < 9 → (entry : Row → Entry X) (test : ℕ → X → Bool) → slice_get (get_or (numbered (λ n. stays_if j entry (test n)) (rows s j)) i []) p ≡ option_map (λ b. cond (is (there entry (rows s j) i) (test i)) b (blank_byte j p)) (slice_get (get_or (rows s j) i []) p)
  staying j l entry test =
      row_places (λ n. stays_if j entry (test n)) (rows s j) i p (λ b. cond (is (there entry (rows s j) i) (test i)) b (blank_byte j p))
      (λ r e t. nth_stays j l r (wide_row j r e t) p entry (test i) (there entry (rows s j) i) (ap (read_by entry) t))

  transition_bytes : slice_get (get_or (numbered (cut_transition k) (rows s transitions)) i []) p ≡ option_map (cut_byte k chosen s transitions i p) (slice_get (get_or (rows s transitions) i []) p)
  transition_bytes = row_places (cut_transition k) (rows s transitions) i p (cut_byte k chosen s transitions i p) one
    where
      stays_or_blank : (r : Row) → r ≡ get_or (rows s transitions) i [] → length r ≡ 5 → (b : Bool) → slice_get (cond b (with_shown_to k r) (blank_row transitions)) p ≡ option_map (λ x. cond b (cond (eqb p 2) (shown_mode k (at (get_or (rows s transitions) i []) 0) x) x) (blank_byte transitions p)) (slice_get r p)
      stays_or_blank r e l true = transition_place k r p l ∙ ap (λ q. option_map (λ x. cond (eqb p 2) (shown_mode k (at q 0) x) x) (slice_get r p)) e
      stays_or_blank r e l false = nth_made r (blank_row transitions) (λ x. blank_byte transitions p) p (sym l) (λ _. refl)

      one : (r : Row) → r ≡ get_or (rows s transitions) i [] → slice_get (rows s transitions) i ≡ Some r → slice_get (cut_transition k i r) p ≡ option_map (cut_byte k chosen s transitions i p) (slice_get r p)
      one r e t =
          stays_or_blank r e (wide_row transitions r e t) (is (held (transition_entry r)) (keeps_from k))
          ∙ ap (λ o. option_map (λ x. cond (is o (keeps_from k)) (cond (eqb p 2) (shown_mode k (at (get_or (rows s transitions) i []) 0) x) x) (blank_byte transitions p)) (slice_get r p)) (sym (ap (read_by transition_entry) t))

  -- each byte of the cut sheet
  pub byte_cut : (section : ℕ) → byte_of (cut_sheet k chosen s) section i p ≡ option_map (cut_byte k chosen s section i p) (byte_of s section i p)
  byte_cut zero = row_places (cut_component k) (rows s components) i p (component_byte k i p) (λ r e t. component_place k r p i (wide_row components r e t))
  byte_cut (suc zero) = staying elements (omega arith) element_entry (λ n x. k (KeptElement n))
  byte_cut (suc (suc zero)) = staying events (omega arith) event_entry (λ n x. k (KeptEvent n))
  byte_cut (suc (suc (suc zero))) = staying nodes (omega arith) node_entry (λ n x. is_used k chosen s n)
  byte_cut (suc (suc (suc (suc zero)))) = staying flows (omega arith) flow_entry (λ n x. k (KeptElement x.port))
  byte_cut (suc (suc (suc (suc (suc zero))))) = staying connections (omega arith) connection_entry (λ n. keeps_events k)
  byte_cut (suc (suc (suc (suc (suc (suc zero)))))) = transition_bytes
  byte_cut (suc (suc (suc (suc (suc (suc (suc zero))))))) = staying settings (omega arith) setting_entry (λ n. keeps_setting k s)
  byte_cut (suc (suc (suc (suc (suc (suc (suc (suc zero)))))))) = staying questions (omega arith) question_entry (λ n x. chosen n)
  byte_cut (suc (suc (suc (suc (suc (suc (suc (suc (suc j))))))))) =
      let none : get_or s (suc (suc (suc (suc (suc (suc (suc (suc (suc j))))))))) [] ≡ [] = get_or_past s (suc (suc (suc (suc (suc (suc (suc (suc (suc j))))))))) [] (omega (arith, nine_sections s a)) in
      sym (ap (λ rs. option_map (cut_byte k chosen s (suc (suc (suc (suc (suc (suc (suc (suc (suc j))))))))) i p) (slice_get (get_or rs i []) p)) none)

module _ (k : Kept) (chosen : Chosen) (s : Sheet) (a : accepted s ≡ true) where
  same_count : (j : ℕ) → j < 9 → (f : ℕ → Row → Row) → ◌≡◌ {A = Option ℕ} (Some (length (numbered f (rows s j)))) (count_of s j)
  same_count j l f = ap Some (length_numbered f (rows s j)) ∙ sym (sized s j a l).counted

  -- the cut sheet has as many rows in each section
  pub count_cut : (section : ℕ) → count_of (cut_sheet k chosen s) section ≡ count_of s section
  count_cut zero = same_count components (omega arith) _
  count_cut (suc zero) = same_count elements (omega arith) _
  count_cut (suc (suc zero)) = same_count events (omega arith) _
  count_cut (suc (suc (suc zero))) = same_count nodes (omega arith) _
  count_cut (suc (suc (suc (suc zero)))) = same_count flows (omega arith) _
  count_cut (suc (suc (suc (suc (suc zero))))) = same_count connections (omega arith) _
  count_cut (suc (suc (suc (suc (suc (suc zero)))))) = same_count transitions (omega arith) _
  count_cut (suc (suc (suc (suc (suc (suc (suc zero))))))) = same_count settings (omega arith) _
  count_cut (suc (suc (suc (suc (suc (suc (suc (suc zero)))))))) = same_count questions (omega arith) _
  count_cut (suc (suc (suc (suc (suc (suc (suc (suc (suc j))))))))) = mapped_none length (slice_get s (suc (suc (suc (suc (suc (suc (suc (suc (suc j)))))))))) (slice_get_past s (suc (suc (suc (suc (suc (suc (suc (suc (suc j))))))))) (omega (arith, nine_sections s a)))
