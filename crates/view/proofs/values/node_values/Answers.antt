use Rattle.std.proofs.Common.{◌≡◌, ◌-◌, length, take, ap, ◌∙◌, arith}
use Rattle.sheet.specs.Sections.{rows, elements}
use Rattle.sheet.proofs.Shapes.{count_is}
use Rattle.running.specs.Values.{node_over}
use Rattle.view.proofs.values.node_values.Goals as goal

pub returns : goal.returns
returns g c n =
    let s = g.V.View.rows c.args.view.now in
    let w = g.V.View.state c.args.view.now in
    let vs = c.element_values-values.result in
    let k = c.unwrap_or-count.result in
    let all : k ≡ length (rows s elements) = c.unwrap_or-count.ensures ∙ count_is s elements (g.met.V.View.accepts c.args.view.now) (omega arith) c.count.result c.count.ensures in
    let part : k - 0 ≡ length (rows s elements) = omega (arith, all) in
    c.worths.ensures n ∙ ap (λ l. node_over s w l n) (ap (λ j. take j vs) part ∙ c.element_values-values.ensures)
