-- The worked examples: what the definitions give, worked out by computing; the kept things are proved smallest.
use Rattle.std.specs.Prelude.{◌≡◌, ℕ, true, false, List, [], ◌∷◌, length, pos, Some, None, Ok, Err, codes, Option, Result}
use Rattle.std.specs.Option.{option_map}
use Rattle.running.specs.declared.kinds.Step.{Step}
use Rattle.running.specs.declared.kinds.Step.TheVariants.{Alone, Pair}
use Rattle.running.specs.declared.kinds.StepRefusal.TheVariants.{NoTransition, NoStep, OtherMode}
use Rattle.running.specs.States.{State, start_state}
use Rattle.running.specs.Steps.{step_reply, step_state, answer_of, value_at}
use Rattle.running.specs.Values.{plus}
use Rattle.sheet.specs.declared.refusal.Refusal.{Refusal}
use Rattle.sheet.specs.Sections.{Sheet, bytes_of}
use Rattle.sheet.specs.Accept.{number_of, verdict, accept}
use Rattle.cutting.specs.CutSheet.{cut_sheet, no_cut_number, question_told, cut_fault}
use Rattle.cutting.specs.Kept.{chosen_in, Smallest}
use Rattle.report.specs.Text.{report_of}
use Rattle.worked_examples.specs.Sheets.{smallest, left_over, late_start, two_unit, two_unit_rows, two_unit_cut, two_unit_kept}

-- a refusal's number and the section and row that it names; nothing where there is no refusal
abbrev pub refused_by : {X : Type 0} → Result X Refusal → Option (ℕ × ℕ × ℕ)
refused_by (Ok x) = None
refused_by (Err f) = Some (number_of f.reason, f.section, f.row)

-- a state of the sheet of two units after some steps were asked for
abbrev pub after : State → List Step → State
after w [] = w
after w (x ∷ xs) = after (step_state two_unit_rows w x) xs

abbrev pub at_start : State
at_start = start_state two_unit_rows

-- transition 0 and transition 1, which bring component 0 into mode 2 and back
abbrev pub one_round : State → State
one_round w = after w (Alone 0 ∷ Alone 1 ∷ [])

abbrev pub three_rounds : State
three_rounds = one_round (one_round (one_round at_start))

-- the number of the refusal of a cut, and the question that it names; nothing where there is a cut
abbrev pub cut_refused_by : Sheet → (set : ℕ) → Option (ℕ × ℕ)
cut_refused_by s set = option_map (λ f. (no_cut_number f, question_told f)) (cut_fault s set)

pub record Examples : Type 0 where
  pub no_bytes : refused_by (verdict []) ≡ Some (1, 0, 0)
  pub bytes_left_over : refused_by (verdict left_over) ≡ Some (2, 9, 0)
  pub no_components : refused_by (verdict (0 ∷ [])) ≡ Some (3, 0, 0)
  pub start_above_the_modes : refused_by (verdict late_start) ≡ Some (4, 0, 0)
  pub smallest_accepted : verdict smallest ≡ Ok tt
  pub two_unit_accepted : accept two_unit ≡ Ok two_unit_rows
  pub two_unit_bytes : bytes_of two_unit_rows ≡ two_unit
  pub two_unit_length : length two_unit ≡ 83
  pub no_bytes_report : report_of [] ≡ codes "refused 1 0 0\nsection 0 (components), row 0: the bytes end early\n"
  pub missing_transition : step_reply two_unit_rows at_start (Alone 3) ≡ Err (NoTransition 3)
  pub no_pair : step_reply two_unit_rows at_start (Pair 0 1) ≡ Err (NoStep 0)
  pub not_in_its_from_mode : step_reply two_unit_rows at_start (Alone 1) ≡ Err (OtherMode 1)
  pub false_at_the_start : answer_of two_unit_rows at_start 0 ≡ Ok false
  pub true_after_three_rounds : answer_of two_unit_rows three_rounds 0 ≡ Ok true
  pub brought_into_its_range : value_at two_unit_rows (one_round three_rounds) 0 ≡ Some (pos 3)
  pub brought_into_the_number_range : plus (pos 32767) (pos 1) ≡ pos 32767
  pub transition_2_on_the_whole : step_reply two_unit_rows at_start (Alone 2) ≡ Ok tt
  pub kept_for_question_0 : Smallest two_unit_rows (chosen_in 1) two_unit_kept
  pub cut_for_question_0 : cut_sheet two_unit_kept (chosen_in 1) two_unit_rows ≡ two_unit_cut
  pub transition_2_on_the_cut : step_reply two_unit_cut (start_state two_unit_cut) (Alone 2) ≡ Err (NoTransition 2)
  pub no_question_chosen : cut_refused_by two_unit_rows 0 ≡ Some (14, 16)
