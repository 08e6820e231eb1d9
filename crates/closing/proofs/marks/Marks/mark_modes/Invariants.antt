use Rattle.std.proofs.Common.{◌≡◌}
use Rattle.marking.specs.Rules.{with_modes}
use Rattle.closing.proofs.marks.Marks.mark_modes.Given as goal

abbrev pub invariant-loop-m : goal.invariant-loop-m
invariant-loop-m l = l.self.table ≡ with_modes l.initial.self.table l.owned.component l.owned.modes l.m
