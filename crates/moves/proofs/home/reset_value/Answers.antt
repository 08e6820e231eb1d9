use Rattle.std.proofs.Common.{◌≡◌, true, sym, ◌∙◌, subst, w32, SFits, rules}
use Rattle.std.proofs.lemmas.Int.{to_z-of_z}
use Rattle.moves.specs.Places.{can_hold}
use Rattle.moves.proofs.Allowed.{start_value_allowed}
use Rattle.moves.proofs.home.reset_value.Goals as goal

pub set_value-requires : goal.set_value-requires
set_value-requires g c =
    let s = g.S.View.rows c.args.store.now in
    let small : SFits w32 c.in-Some.value = search rules in
    subst (λ v. can_hold s c.args.e v ≡ true) (sym (to_z-of_z w32 c.in-Some.value small)) (start_value_allowed s c.args.e c.in-Some.value (sym c.rest_value.ensures ∙ c.in-Some.is))
