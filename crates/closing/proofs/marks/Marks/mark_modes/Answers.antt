use Rattle.std.proofs.Common.{◌≡◌, sym, ap, ◌∙◌, arith}
use Rattle.cutting.specs.declared.kinds.Thing.TheVariants.{Mode}
use Rattle.marking.specs.declared.kinds.Item.TheVariants.{Thing as ThatThing}
use Rattle.marking.specs.Items.{with_mark}
use Rattle.marking.specs.Rules.{with_modes}
use Rattle.marking.proofs.Tables.{modes_listed, modes_unlisted}
use Rattle.closing.proofs.marks.Marks.mark_modes.Goals as goal
use Rattle.closing.proofs.marks.Marks.mark_modes.Goals.{then-lists_mode, else-lists_mode}

pub loop-m-preserved : goal.loop-m-preserved
loop-m-preserved c =
    let table = c.args.self.now.table in
    let component = c.args.owned.component in
    let modes = c.args.owned.modes in
    let m = c.loop-m.m in
    elim c.if-lists_mode.branch [
      | then-lists_mode w ↦ ap (λ x. x.table) w.self-is ∙ w.mark.ensures ∙ ap (λ t. with_mark t (ThatThing (Mode component m))) c.loop-m.invariant ∙ modes_listed table component modes m (sym w.if-lists_mode.ensures)
      | else-lists_mode w ↦ ap (λ x. x.table) w.self-is ∙ c.loop-m.invariant ∙ modes_unlisted table component modes m (sym w.if-lists_mode.ensures)
    ]

pub returns : goal.returns
returns c =
    let all : c.loop-m.m ≡ 16 = omega (arith, c.loop-m-test.false, c.loop-m.auto.m-end) in
    c.loop-m.invariant ∙ ap (with_modes c.args.self.now.table c.args.owned.component c.args.owned.modes) all
