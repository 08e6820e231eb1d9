use Rattle.std.proofs.Common.{◌∙◌, arith}
use Rattle.sheet.specs.Sections.{components}
use Rattle.sheet.proofs.Shapes.{count_is}
use Rattle.moves.proofs.Homes.{no_modes_reset, mode_can_be_set, one_mode_more, all_modes_reset}
use Rattle.moves.proofs.home.reset_modes.Goals as goal

pub loop-c-init : goal.loop-c-init
loop-c-init g c =
    let x = c.args.store.now in
    let s = g.S.View.rows x in
    let n = c.unwrap_or-count.ensures ∙ count_is s components (g.met.S.View.accepts x) (omega arith) c.count.result c.count.ensures in
    no_modes_reset s (g.S.View.state x) c.unwrap_or-count.result (g.met.S.Store.placed x) n

pub set_mode-requires : goal.set_mode-requires
set_mode-requires g c =
    let x = c.args.store.now in
    let s = g.S.View.rows x in
    let n = c.unwrap_or-count.ensures ∙ count_is s components (g.met.S.View.accepts x) (omega arith) c.count.result c.count.ensures in
    mode_can_be_set s (g.S.View.state x) c.unwrap_or-count.result (g.S.View.rows c.loop-c.store) (g.S.View.state c.loop-c.store) c.loop-c.c c.start_mode-mode.result c.loop-c.invariant (g.met.S.View.accepts x) n c.loop-c-test.true c.start_mode-mode.ensures

pub loop-c-preserved : goal.loop-c-preserved
loop-c-preserved g c =
    one_mode_more (g.S.View.rows c.args.store.now) (g.S.View.state c.args.store.now) c.unwrap_or-count.result (g.S.View.rows c.loop-c.store) (g.S.View.state c.loop-c.store) c.loop-c.c (g.S.View.rows c.set_mode.new.self) (g.S.View.state c.set_mode.new.self) c.start_mode-mode.result c.loop-c.invariant c.loop-c-test.true c.start_mode-mode.ensures c.set_mode.ensures.rows c.set_mode.ensures.state

pub returns : goal.returns
returns g c =
    record {
      rows = c.loop-c.invariant.rows_kept;
      state = all_modes_reset (g.S.View.rows c.args.store.now) (g.S.View.state c.args.store.now) c.unwrap_or-count.result (g.S.View.rows c.loop-c.store) (g.S.View.state c.loop-c.store) c.loop-c.c c.loop-c.invariant c.loop-c-test.false;
    }
