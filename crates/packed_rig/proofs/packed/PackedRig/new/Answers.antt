use Rattle.std.proofs.Common.{◌^◌, ◌<◌, sym, subst}
use Rattle.std.proofs.lemmas.Nat.{pow_pos}
use Rattle.image.specs.Reading.{widths, total}
use Rattle.image.proofs.Bytes.{number_zeros}
use Rattle.reader.specs.Means.{rows_held}
use Rattle.running.proofs.StatesKept.{start_state_of}
use Rattle.running.proofs.Stepped.{state_as}
use Rattle.running.specs.States.{start_state}
use Rattle.packed_rig.specs.Tables.{rows_in, state_in}
use Rattle.packed_rig.proofs.packed.PackedRig.new.Goals as goal

pub invariant_of-tables : goal.invariant_of-tables
invariant_of-tables c =
    let t = total (widths (rows_held c.args.sheet)) in
    record { spare = subst (λ x. x < 2 ^ t) (sym (number_zeros 136)) (pow_pos t) }

pub returns : goal.returns
returns c =
    let s = rows_held c.args.sheet in
    let y = c.go_home.new.store in
    let home = c.go_home.ensures in
    record {
      fits = record { spare = y.spare; state_of = state_as s (rows_in y) (start_state s) (state_in y) home.rows home.state (start_state_of s) };
      rows = home.rows;
      state = home.state;
    }
