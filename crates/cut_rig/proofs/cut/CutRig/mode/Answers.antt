use Rattle.std.proofs.Common.{◌≡◌, Some, None, sym, ap, ◌∙◌, rules}
use Rattle.std.specs.Option.{option_map}
use Rattle.cutting.specs.CutSheet.{shown_mode}
use Rattle.cutting.proofs.StatesAgree.{mode_shown}
use Rattle.cut_rig.specs.Tables.{kept_in, chosen_by}
use Rattle.cut_rig.proofs.Shows.{component_few}
use Rattle.cut_rig.proofs.cut.CutRig.mode.Goals as goal

pub returns-in_err-mode : goal.returns-in_err-mode
returns-in_err-mode g c =
    let x = c.args.self.now in
    let k = kept_in x.tables in
    let accepts = (g.met.R.Rig.sound x.below c.requires.below_fits).accepts in
    let none : c.from_residual.result ≡ None = search rules in
    none ∙ ap (option_map (shown_mode k c.args.component)) c.in_err-mode.ensures ∙ sym (mode_shown (g.R.Rig.rows x.below) accepts k (chosen_by x.tables) (g.R.Rig.means x.below).state c.args.component)

pub overflow_cast-component : goal.overflow_cast-component
overflow_cast-component g c =
    let x = c.args.self.now in
    let accepts = (g.met.R.Rig.sound x.below c.requires.below_fits).accepts in
    record { fits = component_few (g.R.Rig.rows x.below) accepts (g.R.Rig.means x.below).state c.args.component c.in_ok-mode.mode c.in_ok-mode.ensures }

pub returns : goal.returns
returns g c =
    let x = c.args.self.now in
    let k = kept_in x.tables in
    let accepts = (g.met.R.Rig.sound x.below c.requires.below_fits).accepts in
    ap Some c.shown_mode.ensures ∙ ap (option_map (shown_mode k c.args.component)) c.in_ok-mode.ensures ∙ sym (mode_shown (g.R.Rig.rows x.below) accepts k (chosen_by x.tables) (g.R.Rig.means x.below).state c.args.component)
