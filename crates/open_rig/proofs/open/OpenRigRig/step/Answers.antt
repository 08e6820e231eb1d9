use Rattle.running.specs.Steps.{step_state}
use Rattle.running.proofs.Replies.{made_when_possible_as, reply_names_the_first_as}
use Rattle.running.proofs.StatesKept.{step_keeps_states}
use Rattle.running.proofs.Stepped.{state_as}
use Rattle.open_rig.specs.Tables.{rows_in, state_in}
use Rattle.open_rig.proofs.open.OpenRigRig.step.Goals as goal

pub returns-clause-still_fits : goal.returns-clause-still_fits
returns-clause-still_fits c =
    let x = c.args.self.now.tables in
    let s = rows_in x in
    let y = c.make_step.new.store in
    let made = c.make_step.ensures in
    state_as s (rows_in y) (step_state s (state_in x) c.args.step) (state_in y) made.rows made.state (step_keeps_states s (state_in x) c.args.step x.sheet.accepted c.requires)

pub returns-clause-made_when_possible : goal.returns-clause-made_when_possible
returns-clause-made_when_possible c = let x = c.args.self.now.tables in made_when_possible_as (rows_in x) (state_in x) c.args.step c.make_step.result c.make_step.ensures.reply

pub returns-clause-names_the_first_check : goal.returns-clause-names_the_first_check
returns-clause-names_the_first_check c = let x = c.args.self.now.tables in reply_names_the_first_as (rows_in x) (state_in x) c.args.step c.make_step.result c.make_step.ensures.reply
