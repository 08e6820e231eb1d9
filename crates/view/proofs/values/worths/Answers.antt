use Rattle.std.proofs.Common.{◌≡◌, ◌-◌, take, ap, ◌∙◌, arith}
use Rattle.sheet.specs.Tables.{grow}
use Rattle.running.specs.Values.{node_cell}
use Rattle.view.proofs.Tables.{filled_more, filled_all, node_table}
use Rattle.view.proofs.values.worths.Goals as goal

pub loop-n-preserved : goal.loop-n-preserved
loop-n-preserved g c =
    let f = node_cell (g.V.View.rows c.args.view.now) (g.V.View.state c.args.view.now) c.args.values.now in
    let n = c.loop-n.n in
    let whole : n - 0 ≡ n = omega arith in
    filled_more f c.loop-n.table 128 n c.loop-n.invariant c.node_worth.result c.loop-n-test.true (c.node_worth.ensures ∙ ap (λ k. f n (take k c.loop-n.table)) whole)

pub returns : goal.returns
returns g c =
    let s = g.V.View.rows c.args.view.now in
    let w = g.V.View.state c.args.view.now in
    let all : c.loop-n.n ≡ 128 = omega arith in
    let a = g.met.V.View.accepts c.args.view.now in
    let f = node_cell s w c.args.values.now in
    node_table s w c.args.values.now c.loop-n.table a (filled_all f c.loop-n.table 128 c.loop-n.n c.loop-n.invariant (omega arith) ∙ ap (grow f) all)
