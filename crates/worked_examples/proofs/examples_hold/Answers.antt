use Rattle.std.proofs.Common.{refl, lit<}
use Rattle.std.proofs.lemmas.Fmt.{decimal_digit}
use Rattle.sheet.specs.Accept.{sheet_tries}
use Rattle.worked_examples.proofs.TwoUnitKept.{two_unit_smallest}
use Rattle.worked_examples.proofs.examples_hold.Goals as goal

pub returns : goal.returns
unfolding sheet_tries
returns c =
    record {
      no_bytes = refl;
      bytes_left_over = refl;
      no_components = refl;
      start_above_the_modes = refl;
      smallest_accepted = refl;
      two_unit_accepted = refl;
      two_unit_bytes = refl;
      two_unit_length = refl;
      no_bytes_report = rw (decimal_digit 1 (lit< tt), decimal_digit 0 (lit< tt));
      missing_transition = refl;
      no_pair = refl;
      not_in_its_from_mode = refl;
      false_at_the_start = refl;
      true_after_three_rounds = refl;
      brought_into_its_range = refl;
      brought_into_the_number_range = refl;
      transition_2_on_the_whole = refl;
      kept_for_question_0 = two_unit_smallest;
      cut_for_question_0 = refl;
      transition_2_on_the_cut = refl;
      no_question_chosen = refl;
    }
