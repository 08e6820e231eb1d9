use Rattle.std.proofs.Common.{◌≡◌, true, sym, ◌∙◌, subst, w32, SFits, rules}
use Rattle.std.proofs.lemmas.Int.{to_z-of_z}
use Rattle.running.specs.Steps.{parts}
use Rattle.moves.specs.Places.{can_hold}
use Rattle.moves.proofs.Allowed.{change_allowed}
use Rattle.moves.proofs.step.apply_setting.Goals as goal

pub set_value-requires : goal.set_value-requires
set_value-requires g c =
    let s = g.S.View.rows c.args.store.now in
    let small : SFits w32 c.in-Some.v = search rules in
    let change = sym c.setting_change.ensures ∙ c.in-Some.is in
    subst (λ v. can_hold s c.in-Some.e v ≡ true) (sym (to_z-of_z w32 c.in-Some.v small)) (change_allowed s (g.met.S.View.accepts c.args.store.now) c.args.worths.now c.args.i (parts c.args.step) c.in-Some.e c.in-Some.v change)
