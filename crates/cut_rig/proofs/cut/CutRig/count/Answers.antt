use Rattle.std.proofs.Common.{sym, ◌∙◌}
use Rattle.cutting.proofs.CutBytes.{count_cut}
use Rattle.cut_rig.specs.Tables.{kept_in, chosen_by}
use Rattle.cut_rig.proofs.cut.CutRig.count.Goals as goal

pub returns : goal.returns
returns g c =
    let x = c.args.self.now in
    c.count.ensures ∙ sym (count_cut (kept_in x.tables) (chosen_by x.tables) (g.R.Rig.rows x.below) (g.met.R.Rig.sound x.below c.requires.below_fits).accepts c.args.section)
