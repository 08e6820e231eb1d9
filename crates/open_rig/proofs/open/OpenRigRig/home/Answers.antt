use Rattle.running.proofs.StatesKept.{start_state_of}
use Rattle.running.proofs.Stepped.{state_as}
use Rattle.running.specs.States.{start_state}
use Rattle.open_rig.specs.Tables.{rows_in, state_in}
use Rattle.open_rig.proofs.open.OpenRigRig.home.Goals as goal

pub returns-clause-still_fits : goal.returns-clause-still_fits
returns-clause-still_fits c =
    let s = rows_in c.args.self.now.tables in
    let y = c.go_home.new.store in
    state_as s (rows_in y) (start_state s) (state_in y) c.go_home.ensures.rows c.go_home.ensures.state (start_state_of s)
