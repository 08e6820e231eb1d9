use Rattle.std.proofs.Common.{sym, refl}
use Rattle.sheet.specs.Sections.{rows, components}
use Rattle.sheet.specs.Typed.{component_entry}
use Rattle.running.specs.States.{start_mode}
use Rattle.view.proofs.Starts.{made_at, made_nowhere}
use Rattle.view.proofs.answers.start_mode.Goals as goal

pub returns : goal.returns
returns g c = sym (made_at component_entry start_mode (rows (g.V.View.rows c.args.view.now) components) c.args.c 0 c.in-Some.x (sym c.in-Some.ensures))

pub returns-in_default : goal.returns-in_default
returns-in_default g c = sym (made_nowhere component_entry start_mode (rows (g.V.View.rows c.args.view.now) components) c.args.c 0 refl refl (sym c.in_default.ensures))
