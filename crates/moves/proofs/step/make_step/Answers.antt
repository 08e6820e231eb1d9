use Rattle.std.proofs.Common.{◌≡◌, Err, sym, refl, ap, ◌∙◌}
use Rattle.std.proofs.lemmas.Result.{err_from_is_err_and}
use Rattle.running.specs.Steps.{parts, moved}
use Rattle.running.proofs.Stepped.{refused_stays, made_goes}
use Rattle.sheet.specs.Sections.{rows, settings}
use Rattle.moves.specs.Places.{with_modes}
use Rattle.moves.proofs.Refills.{settled_is}
use Rattle.moves.proofs.step.make_step.Goals as goal

pub returns-in_err-check_step : goal.returns-in_err-check_step
returns-in_err-check_step g c =
    let s = g.S.View.rows c.args.store.now in
    let w = g.S.View.state c.args.store.now in
    let p = err_from_is_err_and c.from_residual.result c.from_residual.ensures.1 in
    record {
      rows = refl;
      reply = p.1 ∙ ap Err p.2 ∙ c.in_err-check_step.ensures;
      state = sym (refused_stays s w c.args.step _ c.in_err-check_step.ensures);
    }

pub returns : goal.returns
returns g c =
    let s = g.S.View.rows c.args.store.now in
    let w = g.S.View.state c.args.store.now in
    let x = c.args.step in
    let reply = c.in_ok-check_step.ensures in
    let settled_state = c.settle.ensures.state in
    let values = settled_is s w c.node_values-worths.result (parts x) c.node_values-worths.ensures (rows s settings) w.held in
    let modes : g.S.View.state c.move_parts.new.store ≡ _ = c.move_parts.ensures.state ∙ (λ i. with_modes (settled_state i) (moved (c.settle.ensures.rows i) (parts x) (settled_state i).modes)) in
    record {
      rows = c.move_parts.ensures.rows ∙ c.settle.ensures.rows;
      reply = reply;
      state = modes ∙ (λ i. record { modes = moved s (parts x) w.modes; held = values i }) ∙ sym (made_goes s w x reply);
    }
