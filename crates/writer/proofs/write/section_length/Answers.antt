use Rattle.std.proofs.Common.{arith}
use Rattle.writer.proofs.Lengths.{length_is, length_few}
use Rattle.writer.proofs.write.section_length.Goals as goal

pub overflow_mul-result : goal.overflow_mul-result
overflow_mul-result g c =
    let few = length_few (g.V.View.rows c.args.view.now) c.args.section (g.met.V.View.accepts c.args.view.now) c.requires c.row_count.result c.row_count.ensures.value in
    record { fits = omega arith }

pub overflow_add-result : goal.overflow_add-result
overflow_add-result g c =
    let few = length_few (g.V.View.rows c.args.view.now) c.args.section (g.met.V.View.accepts c.args.view.now) c.requires c.row_count.result c.row_count.ensures.value in
    record { fits = omega arith }

pub returns : goal.returns
returns g c =
    let s = g.V.View.rows c.args.view.now in
    let a = (g.met.V.View.accepts c.args.view.now) in
    let few = length_few s c.args.section a c.requires c.row_count.result c.row_count.ensures.value in
    record { value = length_is s c.args.section a c.requires c.row_count.result c.row_count.ensures.value; few = omega arith }
