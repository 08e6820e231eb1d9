use Rattle.std.proofs.Common.{◌≡◌, ◌-◌, take, ap, ◌∙◌, arith, w32, to_z, of_z}
use Rattle.std.proofs.lemmas.Int.{to_z-of_z}
use Rattle.sheet.specs.Tables.{grow}
use Rattle.running.specs.Values.{element_cell}
use Rattle.view.proofs.Tables.{filled_more, filled_all, values_taken}
use Rattle.view.proofs.values.element_values.Goals as goal

pub loop-e-preserved : goal.loop-e-preserved
loop-e-preserved g c =
    let f = element_cell (g.V.View.rows c.args.view.now) (g.V.View.state c.args.view.now) in
    let e = c.loop-e.e in
    let v = c.element_worth.result in
    let whole : e - 0 ≡ e = omega arith in
    let stored : to_z w32 (of_z w32 v) ≡ v = to_z-of_z w32 v (record { sfits = c.element_worth.type_inv }) in
    filled_more f c.loop-e.table 64 e c.loop-e.invariant (to_z w32 (of_z w32 v)) c.loop-e-test.true (stored ∙ c.element_worth.ensures ∙ ap (λ k. f e (take k c.loop-e.table)) whole)

pub returns : goal.returns
returns g c =
    let s = g.V.View.rows c.args.view.now in
    let w = g.V.View.state c.args.view.now in
    let all : c.loop-e.e ≡ 64 = omega arith in
    let a = g.met.V.View.accepts c.args.view.now in
    let f = element_cell s w in
    values_taken s w c.loop-e.table a (filled_all f c.loop-e.table 64 c.loop-e.e c.loop-e.invariant (omega arith) ∙ ap (grow f) all)
