use Rattle.std.proofs.Common.{◌≡◌, length, ◌∙◌, rules}
use Rattle.cutting.specs.Kept.{chosen_in}
use Rattle.marking.specs.Items.{places}
use Rattle.marking.specs.Passes.{Asked}
use Rattle.marking.proofs.KeptThings.{smallest_marks, remaining_marks}
use Rattle.closing.proofs.close.kept_things.Goals as goal

pub returns : goal.returns
returns g c =
    let s = g.V.View.rows c.args.view.now in
    let set = c.args.set in
    let none = c.none-marks.result.table in
    let asked = c.mark_questions.new.marks.table in
    let settled = c.close.new.marks.table in
    let none_long : length none ≡ places = search rules in
    let by_questions : Asked s set none asked = c.in_ok-mark_questions.ensures in
    let long : length settled ≡ places = (c.close.ensures.needed (chosen_in set)).long ∙ by_questions.needed.long ∙ none_long in
    record {
      is_there = by_questions.is_there;
      smallest = smallest_marks s (g.met.V.View.accepts c.args.view.now) set none asked settled long c.none-marks.ensures by_questions c.close.ensures;
      nodes = remaining_marks s (g.met.V.View.accepts c.args.view.now) set none asked settled long c.none-marks.ensures by_questions c.close.ensures;
    }
