use Rattle.std.proofs.Common.{refl, ◌∙◌, arith, rules}
use Rattle.std.proofs.lemmas.Iterator.{YieldsList-from_range}
use Rattle.sheet.specs.Sections.{rows, flows}
use Rattle.sheet.proofs.Shapes.{count_is}
use Rattle.view.proofs.Found.{first_from_find_map, first_in_force, kept}
use Rattle.view.proofs.values.flow_in_force.Goals as goal

pub returns : goal.returns
returns g c =
    let s = g.V.View.rows c.args.view.now in
    let all = c.unwrap_or-count.ensures ∙ count_is s flows (g.met.V.View.accepts c.args.view.now) (omega arith) c.count.result c.count.ensures in
    first_from_find_map (kept (rows s flows) c.args.port c.args.mode) _ _ c.find_map.result c.find_map.ensures.ran c.find_map.ensures.runs (YieldsList-from_range 0 _ c.unwrap_or-count.result refl (omega arith)) (λ x r q k. search rules)
    ∙ first_in_force (rows s flows) c.args.port c.args.mode c.unwrap_or-count.result all
