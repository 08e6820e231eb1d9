use Rattle.std.proofs.Common.{sym, ◌∙◌}
use Rattle.cut_rig.proofs.Shows.{value_gone, value_stays}
use Rattle.cut_rig.proofs.cut.CutRig.value.Goals as goal

pub returns-then-not-row_stays : goal.returns-then-not-row_stays
returns-then-not-row_stays g c =
    let x = c.args.self.now in
    let s = g.R.Rig.rows x.below in
    let f = c.requires.tables_fit in
    sym (value_gone s x.tables (g.met.R.Rig.sound x.below c.requires.below_fits).accepts f f.keeps.smallest.closed (g.R.Rig.means x.below).state c.args.element (sym c.row_stays.ensures ∙ c.if-not-row_stays.true))

pub returns : goal.returns
returns g c =
    let x = c.args.self.now in
    let s = g.R.Rig.rows x.below in
    let f = c.requires.tables_fit in
    c.value.ensures ∙ sym (value_stays s x.tables (g.met.R.Rig.sound x.below c.requires.below_fits).accepts f f.keeps.smallest.closed (g.R.Rig.means x.below).state c.args.element (sym c.row_stays.ensures ∙ c.if-not-row_stays.false))
