use Rattle.std.proofs.Common.{◌≡◌, sym, ap, ◌∙◌, subst}
use Rattle.sheet.specs.Sections.{Sheet}
use Rattle.running.specs.States.{start_state}
use Rattle.cutting.specs.CutSheet.{cut_sheet, shown}
use Rattle.cutting.proofs.StatesAgree.{start_shown}
use Rattle.cut_rig.specs.Tables.{kept_in, chosen_by, TablesFit}
use Rattle.cut_rig.proofs.cut.CutRig.home.Goals as goal

pub returns : goal.returns
returns g c =
    let x = c.args.self.now in
    let s = g.R.Rig.rows x.below in
    let k = kept_in x.tables in
    let chosen = chosen_by x.tables in
    let kept = c.home.ensures.moves.rows_kept in
    let state : shown k (g.R.Rig.means c.home.new.self).state ≡ start_state (cut_sheet k chosen s) = ap (λ m. shown k m.state) c.home.ensures.moves.moved ∙ start_shown s k chosen in
    record {
      still_fits = record { below_fits = c.home.ensures.still_fits; tables_fit = subst (λ (r : Sheet). TablesFit r x.tables) (sym kept) c.requires.tables_fit };
      moves = record { rows_kept = ap (cut_sheet k chosen) kept; moved = λ i. record { state = state i } };
    }
