use Rattle.running.proofs.StatesKept.{start_state_of}
use Rattle.running.proofs.Stepped.{state_as}
use Rattle.running.specs.States.{start_state}
use Rattle.packed_rig.specs.Tables.{rows_in, state_in}
use Rattle.packed_rig.proofs.packed.PackedRigRig.home.Goals as goal

pub returns : goal.returns
returns c =
    let s = rows_in c.args.self.now.tables in
    let y = c.go_home.new.store in
    let home = c.go_home.ensures in
    record {
      still_fits = record { spare = y.spare; state_of = state_as s (rows_in y) (start_state s) (state_in y) home.rows home.state (start_state_of s) };
      moves = record { rows_kept = home.rows; moved = λ i. record { state = home.state i } };
    }
