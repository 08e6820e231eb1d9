use Rattle.running.specs.Steps.{step_state}
use Rattle.running.proofs.Replies.{made_when_possible_as, reply_names_the_first_as}
use Rattle.running.proofs.StatesKept.{step_keeps_states}
use Rattle.running.proofs.Stepped.{state_as}
use Rattle.packed_rig.specs.Tables.{rows_in, state_in}
use Rattle.packed_rig.proofs.packed.PackedRigRig.step.Goals as goal

pub returns : goal.returns
returns c =
    let s = rows_in c.args.self.now.tables in
    let w = state_in c.args.self.now.tables in
    let x = c.args.step in
    let y = c.make_step.new.store in
    let made = c.make_step.ensures in
    record {
      still_fits = record {
        spare = y.spare;
        state_of = state_as s (rows_in y) (step_state s w x) (state_in y) made.rows made.state (step_keeps_states s w x c.args.self.now.tables.sheet.accepted c.requires.state_of);
      };
      made_when_possible = made_when_possible_as s w x c.make_step.result made.reply;
      names_the_first_check = reply_names_the_first_as s w x c.make_step.result made.reply;
      reply = made.reply;
      moves = record { rows_kept = made.rows; moved = λ i. record { state = made.state i } };
    }
