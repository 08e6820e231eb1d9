use Rattle.std.proofs.Common.{◌≡◌, take}
use Rattle.marking.specs.Rules.{with_items}
use Rattle.closing.proofs.marks.Marks.mark_items.Given as goal

abbrev pub invariant-loop-item : goal.invariant-loop-item
invariant-loop-item l = l.self.table ≡ with_items l.initial.self.table (take l.item-index l.item-items)
