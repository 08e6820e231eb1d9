use Rattle.std.proofs.Common.{sym, subst}
use Rattle.moves.specs.Places.{Placed}
use Rattle.open_rig.specs.Tables.{rows_in, state_in}
use Rattle.open_rig.proofs.Records.{value_set, placed_value}
use Rattle.open_rig.proofs.store.TablesStore.set_value.Goals as goal

pub invariant_of-self : goal.invariant_of-self
invariant_of-self c =
    let x = c.args.self.now in
    record { placed = subst (Placed (rows_in x)) (sym (value_set x.components.items x.elements.items c.args.element c.args.value c.ranges.value)) (placed_value (rows_in x) (state_in x) x.placed c.args.element c.args.value c.requires) }

pub returns-in-Some-clause-state : goal.returns-in-Some-clause-state
returns-in-Some-clause-state c = let x = c.args.self.now in value_set x.components.items x.elements.items c.args.element c.args.value c.ranges.value
