use Rattle.std.proofs.Common.{◌-◌, Bool, List, sym, subst, arith, rules}
use Rattle.sheet.proofs.Shapes.{count_is}
use Rattle.marking.specs.Passes.{Passed}
use Rattle.marking.proofs.Walks.{RowsFrom, rows_none, rows_more, rows_blank, rows_all}
use Rattle.closing.proofs.close.apply_section.Goals as goal

pub loop-row-init : goal.loop-row-init
loop-row-init g c =
    let s = g.V.View.rows c.args.view.now in
    let all = count_is s c.args.section (g.met.V.View.accepts c.args.view.now) c.requires c.count.result c.count.ensures in
    rows_none s c.args.section c.unwrap_or-count.result c.args.marks.now.table (omega (arith, all, c.unwrap_or-count.ensures))

pub loop-row-preserved-in-Some : goal.loop-row-preserved-in-Some
loop-row-preserved-in-Some g c =
    let s = g.V.View.rows c.args.view.now in
    let section = c.args.section in
    let n = c.loop-row.row in
    let a = c.args.marks.now.table in
    let b = c.loop-row.marks.table in
    subst (λ (t : List Bool). Passed s (RowsFrom section (n - 1)) a t) (sym c.apply.ensures)
    (rows_more s section n a b c.loop-row.invariant (g.met.V.View.accepts c.args.view.now) (search rules) c.loop-row-test.true c.in-Some.rule (sym c.in-Some.ensures))

pub loop-row-preserved : goal.loop-row-preserved
loop-row-preserved g c =
    let s = g.V.View.rows c.args.view.now in
    rows_blank s c.args.section c.loop-row.row c.args.marks.now.table c.loop-row.marks.table c.loop-row.invariant c.loop-row-test.true (sym c.in_default.ensures)

pub returns : goal.returns
returns g c =
    let s = g.V.View.rows c.args.view.now in
    rows_all s c.args.section c.loop-row.row c.args.marks.now.table c.loop-row.marks.table c.loop-row.invariant c.loop-row-test.false
