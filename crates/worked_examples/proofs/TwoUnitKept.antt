-- What the two-unit sheet keeps for its question: element 0 and the modes 1 and 2 of component 0 are closed, and every
-- closed set has them.
use Rattle.std.proofs.Common.{◌≡◌, ℕ, zero, suc, Bool, true, false, ◌||◌, eqb, Some, None, sym, refl, ⊎_elim}
use Rattle.std.proofs.lemmas.Bool.{false≢true, and_parts, and_right, or_cases, or_right, eqb-true, eq-eqb}
use Rattle.sheet.specs.declared.rows.Question.{Question}
use Rattle.sheet.specs.declared.rows.Setting.{Setting}
use Rattle.sheet.specs.declared.rows.Target.TheVariants.{Element as ThatElement, Mode as ThatMode}
use Rattle.sheet.specs.declared.rows.Transition.{Transition}
use Rattle.sheet.specs.Lookup.{transition_at, setting_at, question_at}
use Rattle.sheet.specs.Resting.{rests}
use Rattle.sheet.proofs.Firsts.{no_pass}
use Rattle.cutting.specs.declared.kinds.Thing.TheVariants.{Element as KeptElement, Event as KeptEvent, Mode as KeptMode}
use Rattle.cutting.specs.Kept.{Kept, chosen_in, keeps_from, touches, Closed, Within, Smallest}
use Rattle.worked_examples.specs.Sheets.{two_unit_rows, two_unit_kept}

-- what holds of the row holds of what is read of it
read_as : {X : Type 0} (P : X → Type 0) (y x : X) → Some y ≡ Some x → P y → P x
read_as P y x e p = let same : y ≡ x = cc in rw (← same) p

-- ---- its rows

abbrev the_question : Question
the_question = record { node = 5 }

-- component 0 goes to mode 2
abbrev transition_0 : Transition
transition_0 = record { component = 0; from = 1; to = 2; event = None; guard = 0 }

-- and back
abbrev transition_1 : Transition
transition_1 = record { component = 0; from = 2; to = 1; event = None; guard = 0 }

-- component 1 goes to mode 2
abbrev transition_2 : Transition
transition_2 = record { component = 1; from = 1; to = 2; event = None; guard = 0 }

abbrev setting_0 : Setting
setting_0 = record { transition = 1; element = 0; node = 3 }

abbrev setting_1 : Setting
setting_1 = record { transition = 2; element = 1; node = 7 }

each_question : (P : ℕ → Question → Type 0) → P 0 the_question → (q : ℕ) (x : Question) → question_at two_unit_rows q ≡ Some x → P q x
each_question P p zero x e = read_as (P 0) the_question x e p
each_question P p (suc q) x e = no_pass x (sym e)

each_transition : (P : Transition → Type 0) → P transition_0 → P transition_1 → P transition_2 → (t : ℕ) (y : Transition) → transition_at two_unit_rows t ≡ Some y → P y
each_transition P p0 p1 p2 zero y e = read_as P transition_0 y e p0
each_transition P p0 p1 p2 (suc zero) y e = read_as P transition_1 y e p1
each_transition P p0 p1 p2 (suc (suc zero)) y e = read_as P transition_2 y e p2
each_transition P p0 p1 p2 (suc (suc (suc t))) y e = no_pass y (sym e)

each_setting : (P : Setting → Type 0) → P setting_0 → P setting_1 → (i : ℕ) (x : Setting) → setting_at two_unit_rows i ≡ Some x → P x
each_setting P p0 p1 zero x e = read_as P setting_0 x e p0
each_setting P p0 p1 (suc zero) x e = read_as P setting_1 x e p1
each_setting P p0 p1 (suc (suc i)) x e = no_pass x (sym e)

-- ---- the set is closed

only : (b : Bool) → ((b || false) || false) ≡ true → b ≡ true
only true h = refl
only false h = h

-- nodes 3 and 5 rest on element 0 only
only_element_0 : (e : ℕ) → ((eqb 0 e || false) || false) ≡ true → two_unit_kept (KeptElement e) ≡ true
only_element_0 e h = eq-eqb e 0 (sym (eqb-true 0 e (only (eqb 0 e) h)))

no_event : (t v : ℕ) (y : Transition) → transition_at two_unit_rows t ≡ Some y → y.event ≡ Some v → ⊥
no_event t v y e = each_transition (λ y. y.event ≡ Some v → ⊥) (λ h. no_pass v (sym h)) (λ h. no_pass v (sym h)) (λ h. no_pass v (sym h)) t y e

two_unit_closed : Closed two_unit_rows (chosen_in 1) two_unit_kept
two_unit_closed =
    record {
      no_mode_0 = λ c. and_right (eqb c 0) false refl;
      question_elements = λ q e x c. each_question (λ q x. rests two_unit_rows (ThatElement e) x.node ≡ true → two_unit_kept (KeptElement e) ≡ true) (only_element_0 e) q x;
      question_modes = λ q c m x h. each_question (λ q x. rests two_unit_rows (ThatMode c m) x.node ≡ true → two_unit_kept (KeptMode c m) ≡ true) (λ h. absurd (false≢true h)) q x;
      setting_from = λ i x y. each_setting (λ x. transition_at two_unit_rows x.transition ≡ Some y → two_unit_kept (KeptElement x.element) ≡ true → keeps_from two_unit_kept y ≡ true)
          (λ e h. read_as (λ y. keeps_from two_unit_kept y ≡ true) transition_1 y e refl) (λ e h. absurd (false≢true h)) i x;
      event_from = λ t v y e n h. absurd (no_event t v y e n);
      touched_from = each_transition (λ y. touches two_unit_kept y ≡ true → keeps_from two_unit_kept y ≡ true) (λ h. refl) (λ h. refl) (λ h. h);
      touched_event = λ t v y e h n. absurd (no_event t v y e n);
      touched_guard = λ t e y r h. each_transition (λ y. rests two_unit_rows (ThatElement e) y.guard ≡ true → two_unit_kept (KeptElement e) ≡ true) (λ h. absurd (false≢true h)) (λ h. absurd (false≢true h)) (λ h. absurd (false≢true h)) t y r;
      touched_setting = λ i e x y r t h. each_setting (λ x. two_unit_kept (KeptElement x.element) ≡ true → rests two_unit_rows (ThatElement e) x.node ≡ true → two_unit_kept (KeptElement e) ≡ true)
          (λ n. only_element_0 e) (λ n. absurd (false≢true n)) i x r;
      flow_elements = λ f e x r. no_pass x (sym r);
      flow_modes = λ f m x p r. no_pass x (sym r);
      connection_in = λ i x r. no_pass x (sym r);
      connection_out = λ i x r. no_pass x (sym r);
      connection_modes = λ i m x r. no_pass x (sym r);
    }

-- ---- every closed set has it

module _ (j : Kept) (closed : Closed two_unit_rows (chosen_in 1) j) where
  has_element_0 : j (KeptElement 0) ≡ true
  has_element_0 = closed.question_elements 0 0 the_question refl refl refl

  has_mode_2 : j (KeptMode 0 2) ≡ true
  has_mode_2 = closed.setting_from 0 setting_0 transition_1 refl refl has_element_0

  has_mode_1 : j (KeptMode 0 1) ≡ true
  has_mode_1 = closed.touched_from 0 transition_0 refl (or_right (j (KeptMode 0 1)) (j (KeptMode 0 2)) has_mode_2)

  has_all : Within two_unit_kept j
  has_all (KeptElement e) h = rw (eqb-true e 0 h) has_element_0
  has_all (KeptEvent v) h = absurd (false≢true h)
  has_all (KeptMode c m) h =
      let p = and_parts (eqb c 0) (eqb m 1 || eqb m 2) h in
      ⊎_elim
      (λ (y : eqb m 1 ≡ true). rw (eqb-true c 0 p.0, eqb-true m 1 y) has_mode_1)
      (λ (y : eqb m 2 ≡ true). rw (eqb-true c 0 p.0, eqb-true m 2 y) has_mode_2)
      (or_cases (eqb m 1) (eqb m 2) p.1)

pub two_unit_smallest : Smallest two_unit_rows (chosen_in 1) two_unit_kept
two_unit_smallest = record { closed = two_unit_closed; least = has_all }
