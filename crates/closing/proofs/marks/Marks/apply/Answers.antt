use Rattle.std.proofs.Common.{sym, ap, ◌∙◌}
use Rattle.std.proofs.lemmas.Bool.{cond-true}
use Rattle.marking.specs.Items.{marked}
use Rattle.marking.specs.Rules.{caused, with_items, with_modes, with_listed}
use Rattle.closing.proofs.marks.Marks.apply.Goals as goal

pub returns-in-Some : goal.returns-in-Some
returns-in-Some c =
    let table = c.args.self.now.table in
    let rule = c.args.rule in
    let owned = c.in-Some.owned in
    c.mark_modes.ensures
    ∙ ap (λ t. with_modes t owned.component owned.modes 16) c.mark_items.ensures
    ∙ ap (with_listed (with_items table rule.effects)) (sym c.in-Some.is)
    ∙ sym (cond-true (caused (marked table) rule) (with_listed (with_items table rule.effects) rule.modes) table (sym c.if-has_cause.ensures))
