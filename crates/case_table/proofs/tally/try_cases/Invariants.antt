use Rattle.std.proofs.Common.{◌≡◌, true, false, Ok}
use Rattle.case_table.proofs.tally.try_cases.Given as goal

abbrev pub invariant-loop-line : goal.invariant-loop-line
invariant-loop-line g l =
    goal.F-IsAlwaysCallable g l.is_right
    × (((text : _) → goal.F-post g l.fn.is_right text (Ok false) → ⊥) → l.tally.wrong ≡ 0)
    × (((text : _) → goal.F-post g l.fn.is_right text (Ok true) → ⊥) → l.tally.wrong ≡ l.tally.tried)
