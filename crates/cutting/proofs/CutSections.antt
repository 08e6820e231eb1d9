-- Sections of a cut sheet keep the rules where the whole sections do and what remains passes its checks.
use Rattle.std.proofs.Common.{◌≡◌, ℕ, zero, suc, ◌<◌, Bool, true, false, cond, not, List, [], length, get_or, Some, sym, refl, ap, ◌∙◌, subst, ⊎_elim, arith, Err, None, Ok}
use Rattle.std.proofs.lemmas.Option.{slice_get-get_or}
use Rattle.std.proofs.lemmas.Bool.{false≢true, or_cases, or_left, or_right}
use Rattle.sheet.specs.Entry.{Entry, malformed}
use Rattle.sheet.specs.declared.rows.Transition.{Transition}
use Rattle.sheet.specs.Laws.{Passes, Right}
use Rattle.sheet.specs.Lookup.{held, read_by, there, is, transition_at}
use Rattle.sheet.specs.Rules.{Checks, only_names, any_below, clear_of_earlier, component_checks}
use Rattle.sheet.specs.Sections.{Row, Sheet, rows, components, transitions}
use Rattle.sheet.specs.Typed.{component_entry, transition_entry}
use Rattle.sheet.proofs.Lookups.{is_cases, is_from}
use Rattle.sheet.proofs.Meaning.{there_inside, held_holds}
use Rattle.cutting.specs.CutSheet.{blank_row, stays_if, cut_component, cut_transition, with_shown_to, cut_sheet}
use Rattle.cutting.specs.Kept.{Kept, Chosen, keeps_from}
use Rattle.cutting.specs.Numbered.{numbered}
use Rattle.cutting.proofs.CutRows.{with_to, there_stays, component_holds}
use Rattle.cutting.proofs.KeptRows.{transition_stays, transition_was}
use Rattle.cutting.proofs.NumberedLists.{length_numbered, get_or_inside}
use Rattle.cutting.proofs.Passings.{passing_found}

-- ---- checks

pub names_pass : (b : Bool) → b ≡ true → Passes (only_names b)
names_pass b h = record { names_right = h; clash_free = refl; rests_right = refl }

-- where a weaker test fails, so does the other
pub stronger_fails : (a b : Bool) → (b ≡ true → a ≡ true) → not a ≡ true → not b ≡ true
stronger_fails true b f h = absurd (false≢true h)
stronger_fails false true f h = absurd (false≢true (f refl))
stronger_fails false false f h = refl

any_less : (p q : ℕ → Bool) → ((j : ℕ) → q j ≡ true → p j ≡ true) → (n : ℕ) → any_below n q ≡ true → any_below n p ≡ true
any_less p q f zero h = h
any_less p q f (suc n) h =
    ⊎_elim
    (λ (y : any_below n q ≡ true). or_left (any_below n p) (p n) (any_less p q f n y))
    (λ (y : q n ≡ true). or_right (any_below n p) (p n) (f n y))
    (or_cases (any_below n q) (q n) h)

-- what is clear of all rows is clear of those that remain
pub clear_kept : {X : Type 0} (entry : Row → Entry X) (clash : X → X → Bool) (rs ts : List Row) → ((j : ℕ) (y : X) → there entry ts j ≡ Some y → there entry rs j ≡ Some y) → (i : ℕ) (x : X) → clear_of_earlier entry clash rs i x ≡ true → clear_of_earlier entry clash ts i x ≡ true
clear_kept entry clash rs ts was i x h =
    stronger_fails (any_below i (λ j. is (there entry rs j) (λ y. clash y x))) (any_below i (λ j. is (there entry ts j) (λ y. clash y x)))
    (any_less (λ j. is (there entry rs j) (λ y. clash y x)) (λ j. is (there entry ts j) (λ y. clash y x))
    (λ j z. let p = is_cases (there entry ts j) (λ y. clash y x) z in is_from (there entry rs j) (λ y. clash y x) p.0 (was j p.0 p.1) p.2) i)
    h

-- ---- rows by their numbers

row_numbered : (f : ℕ → Row → Row) (rs : List Row) (i : ℕ) → i < length (numbered f rs) → (i < length rs) × (get_or (numbered f rs) i [] ≡ f i (get_or rs i []))
row_numbered f rs i l =
    let inside : i < length rs = omega (arith, length_numbered f rs) in
    (inside, get_or_inside f rs i [] [] inside)

-- a row that stays or becomes blank is not faulty
either_not_faulty : {X : Type 0} (entry : Row → Entry X) (blank : Row) → entry blank ≡ Ok None → (b : Bool) (r : Row) → (b ≡ true → entry r ≡ Err malformed → ⊥) → entry (cond b r blank) ≡ Err malformed → ⊥
either_not_faulty entry blank e true r n h = n refl h
either_not_faulty entry blank e false r n h = let z : ◌≡◌ {A = ℕ} 0 1 = cc in omega arith

-- ---- a section whose rows stay or become blank

module _ {X : Type 0} (j : ℕ) (entry : Row → Entry X) (blank : entry (blank_row j) ≡ Ok None) (test : ℕ → X → Bool) (before after : ℕ → X → Checks) (rs : List Row) where
  pub section_stays : ((i : ℕ) (x : X) → test i x ≡ true → there entry rs i ≡ Some x → Passes (before i x) → Passes (after i x)) → Right entry before rs → Right entry after (numbered (λ n. stays_if j entry (test n)) rs)
  section_stays pass right =
      record {
        not_faulty = λ i l h.
            let p = row_numbered (λ n. stays_if j entry (test n)) rs i l in
            either_not_faulty entry (blank_row j) blank (is (held (entry (get_or rs i []))) (test i)) (get_or rs i []) (λ y. right.not_faulty i p.0) (sym (ap entry p.1) ∙ h);
        passes = λ i x e.
            let p = passing_found (test i) (there entry rs i) x (sym (there_stays j entry (ap held blank) test rs i) ∙ e) in
            pass i x p.1 p.0 (right.passes i x p.0);
      }

-- ---- components and transitions

module _ (k : Kept) (chosen : Chosen) (s : Sheet) where
  pub components_stay : Right component_entry (component_checks s) (rows s components) → Right component_entry (component_checks (cut_sheet k chosen s)) (numbered (cut_component k) (rows s components))
  components_stay right =
      record {
        not_faulty = λ i l h.
            let p = row_numbered (cut_component k) (rows s components) i l in
            let r = get_or (rows s components) i [] in
            let holds = component_holds k i r (right.not_faulty i p.0) in
            let z : ◌≡◌ {A = ℕ} 0 1 = cc in omega arith;
        passes = λ i x e. names_pass true refl;
      }

  module _ (before after : ℕ → Transition → Checks) where
    -- a row that keeps its from mode is a transition
    kept_not_faulty : (i : ℕ) → i < length (rows s transitions) → is (held (transition_entry (get_or (rows s transitions) i []))) (keeps_from k) ≡ true → transition_entry (get_or (numbered (cut_transition k) (rows s transitions)) i []) ≡ Err malformed → ⊥
    kept_not_faulty i l y h =
        let q = is_cases (held (transition_entry (get_or (rows s transitions) i []))) (keeps_from k) y in
        let e = transition_stays k chosen s i q.0 (ap (read_by transition_entry) (slice_get-get_or (rows s transitions) i [] l) ∙ q.1) q.2 in
        let g = held_holds (transition_entry (get_or (numbered (cut_transition k) (rows s transitions)) i [])) (with_to k q.0) (there_inside transition_entry (numbered (cut_transition k) (rows s transitions)) i (with_to k q.0) e).1 in
        let z : ◌≡◌ {A = ℕ} 0 1 = cc in omega arith

    pub transitions_stay : ((i : ℕ) (x : Transition) → keeps_from k x ≡ true → transition_at s i ≡ Some x → Passes (before i x) → Passes (after i (with_to k x))) → Right transition_entry before (rows s transitions) → Right transition_entry after (numbered (cut_transition k) (rows s transitions))
    transitions_stay pass right =
        record {
          not_faulty = λ i l h.
              let p = row_numbered (cut_transition k) (rows s transitions) i l in
              let r = get_or (rows s transitions) i [] in
              either_not_faulty transition_entry (blank_row transitions) refl (is (held (transition_entry r)) (keeps_from k)) (with_shown_to k r) (λ y f. kept_not_faulty i p.0 y h) (sym (ap transition_entry p.1) ∙ h);
          passes = λ i y e.
              let p = transition_was k chosen s i y e in
              subst (λ (z : Transition). Passes (after i z)) p.3 (pass i p.0 p.2 p.1 (right.passes i p.0 p.1));
        }
