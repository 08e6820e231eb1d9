use Rattle.std.proofs.Common.{sym, subst}
use Rattle.moves.specs.Places.{Placed}
use Rattle.open_rig.specs.Tables.{rows_in, state_in}
use Rattle.open_rig.proofs.Records.{mode_set, placed_mode}
use Rattle.open_rig.proofs.store.TablesStore.set_mode.Goals as goal

pub invariant_of-self : goal.invariant_of-self
invariant_of-self c =
    let x = c.args.self.now in
    record { placed = subst (Placed (rows_in x)) (sym (mode_set x.components.items x.elements.items c.args.component c.args.mode)) (placed_mode (rows_in x) (state_in x) x.placed c.args.component c.args.mode) }

pub returns-in-Some-clause-state : goal.returns-in-Some-clause-state
returns-in-Some-clause-state c = let x = c.args.self.now in mode_set x.components.items x.elements.items c.args.component c.args.mode
