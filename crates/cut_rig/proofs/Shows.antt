-- What the tables of a cut say of the rows and the state below.
use Rattle.std.proofs.Common.{◌≡◌, ℕ, ◌<◌, ◌≤◌, Bool, true, false, cond, ◌&&◌, ltb, List, [], ◌∷◌, get_or, pos, is_some, Some, None, Ok, Err, Option, Result, unwrap_or, sym, refl, ap, ◌∙◌, ⊎_elim, arith}
use Rattle.std.proofs.lemmas.Bool.{false≢true, cases_lt, ne_eqb, lt-ltb, le-ltb}
use Rattle.std.proofs.lemmas.List.{get_or_past}
use Rattle.std.specs.Option.{option_map}
use Rattle.std.specs.List.{slice_get}
use Rattle.sheet.specs.Entry.{Entry}
use Rattle.sheet.specs.declared.rows.Element.{Element}
use Rattle.sheet.specs.declared.rows.Transition.{Transition}
use Rattle.sheet.specs.Accept.{accepted}
use Rattle.sheet.specs.Cells.{byte_of}
use Rattle.sheet.specs.Lookup.{there, is, element_at, transition_at}
use Rattle.sheet.specs.Sections.{Row, Sheet, rows, components, elements, transitions}
use Rattle.sheet.specs.Tries.{Try, must, or_else, first_fault}
use Rattle.sheet.specs.Typed.{at, component_entry, element_entry, transition_entry}
use Rattle.sheet.proofs.Firsts.{no_pass, first_fails}
use Rattle.sheet.proofs.Lookups.{there_past}
use Rattle.sheet.proofs.Shapes.{nine_sections, sized}
use Rattle.running.specs.declared.kinds.Step.{Step}
use Rattle.running.specs.declared.kinds.StepRefusal.{StepRefusal}
use Rattle.running.specs.declared.kinds.StepRefusal.TheVariants.{NoTransition}
use Rattle.running.specs.States.{State, mode_of}
use Rattle.running.specs.Steps.{parts, is_there, each_part, replied, step_reply, mode_at, value_at}
use Rattle.running.specs.Values.{values}
use Rattle.cutting.specs.declared.kinds.Thing.TheVariants.{Element as KeptElement}
use Rattle.cutting.specs.Agreement.{IsKeptTransition, Every}
use Rattle.cutting.specs.CutCells.{row_stays, blank_byte, component_byte, staying_byte, cut_byte}
use Rattle.cutting.specs.CutSheet.{cut_sheet, shown}
use Rattle.cutting.specs.Kept.{keeps_from, Closed}
use Rattle.cutting.proofs.CutBytes.{byte_cut}
use Rattle.cutting.proofs.CutRows.{passing, with_to, transition_cut}
use Rattle.cutting.proofs.ElementsAgree.{value_shown}
use Rattle.cut_rig.specs.declared.tables.Tables.{Tables}
use Rattle.cut_rig.specs.Tables.{kept_in, chosen_by, stays_in, TablesFit}

module _ (s : Sheet) (t : Tables) (a : accepted s ≡ true) (f : TablesFit s t) where
  -- a row that has a place in the table
  pub stays_here : (section i : ℕ) → section < 9 → i < 128 → stays_in t section i ≡ row_stays (kept_in t) (chosen_by t) s section i
  stays_here section i l b =
      ap (λ x. cond (x && ltb i 128) (get_or (get_or t.rows section []) i false) false) (lt-ltb section 9 l)
      ∙ ap (λ x. cond x (get_or (get_or t.rows section []) i false) false) (lt-ltb i 128 b)
      ∙ f.rows section i l b

  -- any row of a section whose rows stay by a test
  stays_anywhere : {X : Type 0} (entry : Row → Entry X) (section : ℕ) (test : ℕ → X → Bool) → section < 9 → ((i : ℕ) → row_stays (kept_in t) (chosen_by t) s section i ≡ is (there entry (rows s section) i) (test i)) → (i : ℕ) → stays_in t section i ≡ is (there entry (rows s section) i) (test i)
  stays_anywhere entry section test l h i =
      ⊎_elim
      (λ (b : i < 128). stays_here section i l b ∙ h i)
      (λ (b : 128 ≤ i).
      ap (λ x. cond (x && ltb i 128) (get_or (get_or t.rows section []) i false) false) (lt-ltb section 9 l)
      ∙ ap (λ x. cond x (get_or (get_or t.rows section []) i false) false) (le-ltb i 128 b)
      ∙ sym (ap (λ o. is o (test i)) (there_past entry (rows s section) i (omega (arith, (sized s section a l).few)))))
      (cases_lt i 128)

  element_stays : (e : ℕ) → stays_in t elements e ≡ is (element_at s e) (λ x. kept_in t (KeptElement e))
  element_stays e = stays_anywhere element_entry elements (λ i x. kept_in t (KeptElement i)) (omega arith) (λ i. refl) e

  transition_stays : (i : ℕ) → stays_in t transitions i ≡ is (transition_at s i) (keeps_from (kept_in t))
  transition_stays i = stays_anywhere transition_entry transitions (λ i. keeps_from (kept_in t)) (omega arith) (λ i. refl) i

  -- ---- values

  told_by : (w : State) (e : ℕ) (o : Option Element) (b : Bool) → element_at s e ≡ o → is o (λ x. b) ≡ false → cond b (value_at s w e) None ≡ None
  told_by w e None true h n = ap (option_map (λ x. get_or (values s w) e (pos 0))) h
  told_by w e None false h n = refl
  told_by w e (Some x) true h n = absurd (false≢true (sym n))
  told_by w e (Some x) false h n = refl

  module _ (closed : Closed s (chosen_by t) (kept_in t)) (w : State) (e : ℕ) where
    -- an element that does not stay has no value
    pub value_gone : stays_in t elements e ≡ false → value_at (cut_sheet (kept_in t) (chosen_by t) s) (shown (kept_in t) w) e ≡ None
    value_gone n = value_shown s a (kept_in t) (chosen_by t) closed w e ∙ told_by w e (element_at s e) (kept_in t (KeptElement e)) refl (sym (element_stays e) ∙ n)

    -- one that stays has its value
    pub value_stays : stays_in t elements e ≡ true → value_at (cut_sheet (kept_in t) (chosen_by t) s) (shown (kept_in t) w) e ≡ value_at s w e
    value_stays y = value_shown s a (kept_in t) (chosen_by t) closed w e ∙ by (element_at s e) (sym (element_stays e) ∙ y)
      where
        by : (o : Option Element) → is o (λ x. kept_in t (KeptElement e)) ≡ true → cond (kept_in t (KeptElement e)) (value_at s w e) None ≡ value_at s w e
        by None h = absurd (false≢true h)
        by (Some x) h = ap (λ b. cond b (value_at s w e) None) h

  -- ---- transitions

  is_left : (o : Option Transition) → is o (keeps_from (kept_in t)) ≡ is_some (option_map (with_to (kept_in t)) (passing (keeps_from (kept_in t)) o))
  is_left None = refl
  is_left (Some x) = by (keeps_from (kept_in t) x)
    where
      by : (b : Bool) → b ≡ is_some (option_map (with_to (kept_in t)) (cond b (Some x) None))
      by true = refl
      by false = refl

  -- a transition stays exactly where it is there in the cut sheet
  stays_there : (i : ℕ) → stays_in t transitions i ≡ is_there (cut_sheet (kept_in t) (chosen_by t) s) i
  stays_there i = transition_stays i ∙ is_left (transition_at s i) ∙ sym (ap is_some (transition_cut (kept_in t) (chosen_by t) s i))

  -- the first transition of a step that is not there
  pub first_dropped : (x : Step) → first_fault (each_part (stays_in t transitions) NoTransition (parts x)) ≡ first_fault (each_part (is_there (cut_sheet (kept_in t) (chosen_by t) s)) NoTransition (parts x))
  first_dropped x = let same : stays_in t transitions ≡ is_there (cut_sheet (kept_in t) (chosen_by t) s) = λ i n. stays_there n i in ap (λ p. first_fault (each_part p NoTransition (parts x))) same

  -- ---- bytes

  module _ (section i p b : ℕ) (e : Some b ≡ byte_of s section i p) where
    -- the row is there
    row_there : (section < 9) × (i < 128)
    row_there =
        let inside : section < 9 = ⊎_elim (λ (l : section < 9). l) (λ (l : 9 ≤ section). no_pass b (e ∙ ap (λ rs. slice_get (get_or rs i []) p) (get_or_past s section [] (omega (arith, nine_sections s a))))) (cases_lt section 9) in
        let few = (sized s section a inside).few in
        (inside, ⊎_elim (λ (l : i < 128). l) (λ (l : 128 ≤ i). no_pass b (e ∙ ap (λ r. slice_get r p) (get_or_past (rows s section) i [] (omega arith)))) (cases_lt i 128))

    -- the number of the row is a byte
    pub row_few : i < 256
    row_few = let l = row_there.1 in omega arith

    -- a byte is told as the cut sheet has it
    pub byte_told : (x : ℕ) → x ≡ cut_byte (kept_in t) (chosen_by t) s section i p b → Some x ≡ byte_of (cut_sheet (kept_in t) (chosen_by t) s) section i p
    byte_told x h = ap Some h ∙ ap (option_map (cut_byte (kept_in t) (chosen_by t) s section i p)) e ∙ sym (byte_cut (kept_in t) (chosen_by t) s a i p section)

    pub start_told : (x : ℕ) → section ≡ 0 → x ≡ component_byte (kept_in t) i p b → Some x ≡ byte_of (cut_sheet (kept_in t) (chosen_by t) s) section i p
    start_told x z h = byte_told x (h ∙ sym (ap (λ k. cut_byte (kept_in t) (chosen_by t) s k i p b) z))

    by_stay : (y : Bool) → (section ≡ 0 → ⊥) → stays_in t section i ≡ y → cut_byte (kept_in t) (chosen_by t) s section i p b ≡ cond y (staying_byte (kept_in t) s section i p b) (blank_byte section p)
    by_stay y n h =
        ap (λ z. cond z (component_byte (kept_in t) i p b) (cond (row_stays (kept_in t) (chosen_by t) s section i) (staying_byte (kept_in t) s section i p b) (blank_byte section p))) (ne_eqb section 0 n)
        ∙ ap (λ z. cond z (staying_byte (kept_in t) s section i p b) (blank_byte section p)) (sym (stays_here section i row_there.0 row_there.1) ∙ h)

    pub blank_told : (x : ℕ) → (section ≡ 0 → ⊥) → stays_in t section i ≡ false → x ≡ blank_byte section p → Some x ≡ byte_of (cut_sheet (kept_in t) (chosen_by t) s) section i p
    blank_told x n h w = byte_told x (w ∙ sym (by_stay false n h))

    pub staying_told : (x : ℕ) → (section ≡ 0 → ⊥) → stays_in t section i ≡ true → x ≡ staying_byte (kept_in t) s section i p b → Some x ≡ byte_of (cut_sheet (kept_in t) (chosen_by t) s) section i p
    staying_told x n h w = byte_told x (w ∙ sym (by_stay true n h))

-- the first byte of a row, or 0
pub first_byte : (r : Row) → unwrap_or (slice_get r 0) 0 ≡ at r 0
first_byte [] = refl
first_byte (b ∷ r) = refl

-- ---- replies

module _ (s : Sheet) where
  there_or_refused : (t : ℕ) (rest : Try StepRefusal) (b : Bool) → is_there s t ≡ b → ◌≡◌ {A = Result (Unit {0}) StepRefusal} (Ok tt) (replied (or_else (must b (NoTransition t)) rest)) → IsKeptTransition s t × (◌≡◌ {A = Result (Unit {0}) StepRefusal} (Ok tt) (replied rest))
  there_or_refused t rest true h e = (h, e)
  there_or_refused t rest false h e = absurd (let z : ◌≡◌ {A = ℕ} 0 1 = cc in omega arith)

  -- every transition that takes part is there
  pub kept_parts : (ts : List ℕ) → ◌≡◌ {A = Result (Unit {0}) StepRefusal} (Ok tt) (replied (first_fault (each_part (is_there s) NoTransition ts))) → Every (IsKeptTransition s) ts
  kept_parts [] e = tt
  kept_parts (t ∷ ts) e = let p = there_or_refused t (first_fault (each_part (is_there s) NoTransition ts)) (is_there s t) refl e in (p.0, kept_parts ts p.1)

  -- a step with a transition that is not there is refused by that
  pub dropped_reply : (w : State) (x : Step) (f : StepRefusal) → ◌≡◌ {A = Result (Unit {0}) StepRefusal} (Err f) (replied (first_fault (each_part (is_there s) NoTransition (parts x)))) → ◌≡◌ {A = Result (Unit {0}) StepRefusal} (Err f) (step_reply s w x)
  dropped_reply w x f e = by (first_fault (each_part (is_there s) NoTransition (parts x))) refl e
    where
      by : (o : Try StepRefusal) → first_fault (each_part (is_there s) NoTransition (parts x)) ≡ o → ◌≡◌ {A = Result (Unit {0}) StepRefusal} (Err f) (replied o) → ◌≡◌ {A = Result (Unit {0}) StepRefusal} (Err f) (step_reply s w x)
      by None h e = absurd (let z : ◌≡◌ {A = ℕ} 0 1 = cc in omega arith)
      by (Some g) h e = e ∙ sym (ap replied (first_fails (each_part (is_there s) NoTransition (parts x)) _ g h))

-- ---- components

-- a component that has a mode has a number of one byte
pub component_few : (s : Sheet) → accepted s ≡ true → (w : State) (c m : ℕ) → Some m ≡ mode_at s w c → c < 256
component_few s a w c m e =
    ⊎_elim
    (λ (l : c < 16). omega arith)
    (λ (l : 16 ≤ c). no_pass m (e ∙ ap (option_map (λ x. mode_of w c)) (there_past component_entry (rows s components) c (omega (arith, (sized s components a (omega arith)).within)))))
    (cases_lt c 16)
