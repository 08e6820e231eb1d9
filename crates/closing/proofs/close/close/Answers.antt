use Rattle.marking.proofs.Passes.{needed_join, needed_none}
use Rattle.marking.proofs.Walks.{settled}
use Rattle.closing.proofs.close.close.Goals as goal

pub loop-init : goal.loop-init
loop-init g c chosen = needed_none (g.V.View.rows c.args.view.now) chosen c.args.marks.now.table

pub loop-preserved : goal.loop-preserved
loop-preserved g c chosen = needed_join (g.V.View.rows c.args.view.now) chosen c.args.marks.now.table c.loop.marks.table c.pass.new.marks.table (c.loop.invariant chosen) (c.pass.ensures.passed.needed chosen)

pub returns : goal.returns
returns g c = settled (g.V.View.rows c.args.view.now) c.loop.marks.table c.pass.new.marks.table c.pass.ensures.passed c.args.marks.now.table c.loop.invariant (c.pass.ensures.same c.loop-test.false)
