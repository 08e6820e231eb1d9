use Rattle.std.proofs.Common.{◌≡◌, Err, sym, refl, ap, ◌∙◌, subst}
use Rattle.std.proofs.lemmas.Result.{err_from_is_err_and}
use Rattle.sheet.specs.Sections.{Sheet}
use Rattle.running.proofs.Stepped.{refused_stays}
use Rattle.running.specs.Steps.{replied, step_reply, step_state}
use Rattle.running.proofs.Replies.{made_when_possible_as, reply_names_the_first_as}
use Rattle.cutting.specs.CutSheet.{cut_sheet, shown}
use Rattle.cutting.proofs.StepsAgree.{reply_shown, step_shown}
use Rattle.cut_rig.specs.Tables.{kept_in, chosen_by, TablesFit}
use Rattle.cut_rig.proofs.Shows.{first_dropped, kept_parts, dropped_reply}
use Rattle.cut_rig.proofs.cut.CutRig.step.Goals as goal

pub returns-in_err-check_kept : goal.returns-in_err-check_kept
returns-in_err-check_kept g c =
    let y = c.args.self.now in
    let s = g.R.Rig.rows y.below in
    let k = kept_in y.tables in
    let b = cut_sheet k (chosen_by y.tables) s in
    let w = shown k (g.R.Rig.means y.below).state in
    let x = c.args.step in
    let accepts = (g.met.R.Rig.sound y.below c.requires.below_fits).accepts in
    let p = err_from_is_err_and c.from_residual.result c.from_residual.ensures.1 in
    let refused = dropped_reply b w x _ (c.in_err-check_kept.ensures ∙ ap replied (first_dropped s y.tables accepts c.requires.tables_fit x)) in
    let reply : c.from_residual.result ≡ step_reply b w x = p.1 ∙ ap Err p.2 ∙ refused in
    let stays = refused_stays b w x _ refused in
    record {
      still_fits = c.requires;
      made_when_possible = made_when_possible_as b w x c.from_residual.result reply;
      names_the_first_check = reply_names_the_first_as b w x c.from_residual.result reply;
      reply = reply;
      moves = record { rows_kept = refl; moved = λ i. record { state = sym stays i } };
    }

pub returns : goal.returns
returns g c =
    let y = c.args.self.now in
    let s = g.R.Rig.rows y.below in
    let k = kept_in y.tables in
    let chosen = chosen_by y.tables in
    let b = cut_sheet k chosen s in
    let v = (g.R.Rig.means y.below).state in
    let w = shown k v in
    let x = c.args.step in
    let accepts = (g.met.R.Rig.sound y.below c.requires.below_fits).accepts in
    let closed = c.requires.tables_fit.keeps.smallest.closed in
    let kept = kept_parts b _ (c.in_ok-check_kept.ensures ∙ ap replied (first_dropped s y.tables accepts c.requires.tables_fit x)) in
    let reply : c.step.result ≡ step_reply b w x = c.step.ensures.reply ∙ reply_shown s accepts k chosen closed v x kept in
    let same = c.step.ensures.moves.rows_kept in
    let state : shown k (g.R.Rig.means c.step.new.self).state ≡ step_state b w x = ap (λ m. shown k m.state) c.step.ensures.moves.moved ∙ step_shown s accepts k chosen closed v x in
    record {
      still_fits = record { below_fits = c.step.ensures.still_fits; tables_fit = subst (λ (r : Sheet). TablesFit r y.tables) (sym same) c.requires.tables_fit };
      made_when_possible = made_when_possible_as b w x c.step.result reply;
      names_the_first_check = reply_names_the_first_as b w x c.step.result reply;
      reply = reply;
      moves = record { rows_kept = ap (cut_sheet k chosen) same; moved = λ i. record { state = state i } };
    }
