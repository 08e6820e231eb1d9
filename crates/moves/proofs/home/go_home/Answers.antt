use Rattle.std.proofs.Common.{◌∙◌}
use Rattle.moves.specs.Places.{at_start_values}
use Rattle.moves.proofs.home.go_home.Goals as goal

pub returns : goal.returns
returns g c =
    record {
      rows = c.reset_values.ensures.rows ∙ c.reset_modes.ensures.rows;
      state = c.reset_values.ensures.state ∙ (λ i. at_start_values (c.reset_modes.ensures.rows i) (c.reset_modes.ensures.state i));
    }
