use Rattle.std.proofs.Common.{refl, ◌∙◌, arith}
use Rattle.sheet.specs.Sections.{elements}
use Rattle.sheet.proofs.Shapes.{count_is}
use Rattle.moves.proofs.Homes.{no_values_reset, one_element_more, all_values_reset}
use Rattle.moves.proofs.home.reset_values.Goals as goal

pub loop-e-init : goal.loop-e-init
loop-e-init g c =
    let x = c.args.store.now in
    let s = g.S.View.rows x in
    let n = c.unwrap_or-count.ensures ∙ count_is s elements (g.met.S.View.accepts x) (omega arith) c.count.result c.count.ensures in
    no_values_reset s (g.S.View.state x) c.unwrap_or-count.result (g.met.S.Store.placed x) n

pub loop-e-preserved : goal.loop-e-preserved
loop-e-preserved g c =
    one_element_more (g.S.View.rows c.args.store.now) (g.S.View.state c.args.store.now) c.unwrap_or-count.result (g.S.View.rows c.loop-e.store) (g.S.View.state c.loop-e.store) c.loop-e.e (g.S.View.rows c.reset_value.new.store) (g.S.View.state c.reset_value.new.store) _ (g.met.S.Store.placed c.args.store.now) c.loop-e.invariant c.loop-e-test.true refl c.reset_value.ensures.rows c.reset_value.ensures.state

pub returns : goal.returns
returns g c =
    record {
      rows = c.loop-e.invariant.rows_kept;
      state = all_values_reset (g.S.View.rows c.args.store.now) (g.S.View.state c.args.store.now) c.unwrap_or-count.result (g.S.View.rows c.loop-e.store) (g.S.View.state c.loop-e.store) c.loop-e.e c.loop-e.invariant c.loop-e-test.false;
    }
