use Rattle.std.proofs.Common.{◌∙◌, arith}
use Rattle.sheet.proofs.Shapes.{sized, count_is}
use Rattle.writer.proofs.write.row_count.Goals as goal

pub returns : goal.returns
returns g c =
    let s = g.V.View.rows c.args.view.now in
    let a = (g.met.V.View.accepts c.args.view.now) in
    let n = c.unwrap_or.ensures ∙ count_is s c.args.section a c.requires c.count.result c.count.ensures in
    record { value = n; few = omega (arith, n, (sized s c.args.section a c.requires).few) }
