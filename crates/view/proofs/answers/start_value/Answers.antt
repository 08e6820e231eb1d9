use Rattle.std.proofs.Common.{cond, pos, sym, refl, ap, ◌∙◌, w32, SFits, rules}
use Rattle.std.proofs.lemmas.Int.{to_z-of_z}
use Rattle.sheet.specs.Rules.{of_port}
use Rattle.sheet.specs.Sections.{rows, elements}
use Rattle.sheet.specs.Typed.{element_entry}
use Rattle.running.specs.States.{start_value}
use Rattle.view.proofs.Starts.{made_at, made_nowhere}
use Rattle.view.proofs.answers.start_value.Goals as goal

pub returns-in_default : goal.returns-in_default
returns-in_default g c = sym (made_nowhere element_entry start_value (rows (g.V.View.rows c.args.view.now) elements) c.args.e (pos 0) refl refl (sym c.in_default.ensures))

pub returns-in-Held : goal.returns-in-Held
returns-in-Held g c =
    let x = c.in-Some.x in
    let small : SFits w32 x.rest = search rules in
    to_z-of_z w32 x.rest small ∙ sym (made_at element_entry start_value (rows (g.V.View.rows c.args.view.now) elements) c.args.e (pos 0) x (sym c.in-Some.ensures) ∙ ap (λ k. cond (of_port k) (pos 0) x.rest) c.in-Held.is)

pub returns-in-Port : goal.returns-in-Port
returns-in-Port g c =
    let x = c.in-Some.x in
    sym (made_at element_entry start_value (rows (g.V.View.rows c.args.view.now) elements) c.args.e (pos 0) x (sym c.in-Some.ensures) ∙ ap (λ k. cond (of_port k) (pos 0) x.rest) c.in-Port.is)
