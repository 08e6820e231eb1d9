use Rattle.std.proofs.Common.{◌≡◌, ◌+◌, ◌<◌, length, drop, sym, refl, ap, ◌∙◌, arith}
use Rattle.running.specs.States.{State}
use Rattle.running.specs.Steps.{parts}
use Rattle.sheet.specs.Lookup.{setting_at}
use Rattle.sheet.specs.Sections.{rows, settings}
use Rattle.sheet.proofs.Shapes.{count_is}
use Rattle.view.specs.Checks.{change_by, changed}
use Rattle.moves.specs.Settle.{settled_by}
use Rattle.moves.proofs.Refills.{settled_more, settled_end}
use Rattle.moves.proofs.step.settle.Goals as goal

pub loop-i-preserved : goal.loop-i-preserved
loop-i-preserved g c =
    let s = g.S.View.rows c.args.store.now in
    let t = c.args.worths.now in
    let ts = parts c.args.step in
    let i = c.loop-i.i in
    let vs = (g.S.View.state c.loop-i.store).held in
    let inv = c.loop-i.invariant in
    let n = count_is s settings (g.met.S.View.accepts c.args.store.now) (omega arith) c.count.result c.count.ensures in
    let inside : i < length (rows s settings) = omega (arith, c.loop-i-test.true, c.unwrap_or-count.ensures, n) in
    let is = c.apply_setting.ensures.state in
    let after : (g.S.View.state c.apply_setting.new.store).held ≡ changed (change_by s t ts (setting_at s i)) vs = ap (λ (w : State). w.held) is ∙ ap (λ r. changed (change_by r t ts (setting_at r i)) vs) inv.2 in (
      ap (settled_by s t ts (drop (i + 1) (rows s settings))) after ∙ settled_more s t ts (rows s settings) i vs (change_by s t ts (setting_at s i)) inside refl ∙ inv.0,
      ap (λ (w : State). w.modes) is ∙ inv.1,
      c.apply_setting.ensures.rows ∙ inv.2,
    )

pub returns : goal.returns
returns g c =
    let s = g.S.View.rows c.args.store.now in
    let inv = c.loop-i.invariant in
    let n = count_is s settings (g.met.S.View.accepts c.args.store.now) (omega arith) c.count.result c.count.ensures in
    let values = sym (settled_end s c.args.worths.now (parts c.args.step) (rows s settings) c.loop-i.i (g.S.View.state c.loop-i.store).held (omega (arith, c.loop-i-test.false, c.unwrap_or-count.ensures, n))) ∙ inv.0 in
    record {
      rows = inv.2;
      state = λ j. record { modes = inv.1 j; held = values j };
    }
