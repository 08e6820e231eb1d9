use Rattle.std.proofs.Common.{◌≡◌, length, get_or, pos, Some, sym, ap, ◌∙◌, w32}
use Rattle.std.proofs.lemmas.List.{get_or-take}
use Rattle.std.proofs.lemmas.Int.{to_z-of_z}
use Rattle.std.specs.Option.{option_map}
use Rattle.sheet.specs.Sections.{rows, elements}
use Rattle.sheet.specs.Typed.{element_entry}
use Rattle.sheet.proofs.Meaning.{there_inside}
use Rattle.running.specs.Values.{values}
use Rattle.view.proofs.answers.value_told.Goals as goal

pub returns : goal.returns
returns g c =
    let s = g.V.View.rows c.args.view.now in
    let w = g.V.View.state c.args.view.now in
    let e = c.args.e in
    let vs = c.element_values.result in
    let inside = (there_inside element_entry (rows s elements) e c.in_ok-_x._x (sym c.in_ok-_x.ensures)).0 in
    let read : c.value_at.result ≡ get_or (values s w) e (pos 0) = c.value_at.ensures ∙ sym (get_or-take (length (rows s elements)) vs e (pos 0) inside) ∙ ap (λ l. get_or l e (pos 0)) c.element_values.ensures in
    let told = to_z-of_z w32 c.value_at.result (record { sfits = c.value_at.type_inv }) in
    ap Some (told ∙ read) ∙ ap (option_map (λ x. get_or (values s w) e (pos 0))) c.in_ok-_x.ensures
