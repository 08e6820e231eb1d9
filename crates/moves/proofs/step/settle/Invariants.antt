use Rattle.std.proofs.Common.{◌≡◌, drop}
use Rattle.running.specs.Steps.{parts}
use Rattle.sheet.specs.Sections.{rows, settings}
use Rattle.moves.specs.Settle.{settled_by}
use Rattle.moves.proofs.step.settle.Given as goal

abbrev pub invariant-loop-i : goal.invariant-loop-i
invariant-loop-i g l =
    (settled_by (g.S.View.rows l.initial.store) l.worths (parts l.step) (drop l.i (rows (g.S.View.rows l.initial.store) settings)) (g.S.View.state l.store).held
    ≡ settled_by (g.S.View.rows l.initial.store) l.worths (parts l.step) (rows (g.S.View.rows l.initial.store) settings) (g.S.View.state l.initial.store).held)
    × ((g.S.View.state l.store).modes ≡ (g.S.View.state l.initial.store).modes)
    × (g.S.View.rows l.store ≡ g.S.View.rows l.initial.store)
