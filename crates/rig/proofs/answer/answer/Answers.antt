use Rattle.running.proofs.Elements.{values_by_laws}
use Rattle.running.proofs.StatesKept.{reached_is_a_state}
use Rattle.rig.proofs.answer.answer.Goals as goal

pub returns : goal.returns
returns g c = record { reached_are_states = reached_is_a_state; values_by_laws = values_by_laws; value = c.answer_to.ensures }
