use Rattle.std.proofs.Common.{◌≡◌}
use Rattle.image.specs.Bits.{number_of, part, put}
use Rattle.bits.proofs.string.BitField.put.Given as goal

abbrev pub invariant-loop-i : goal.invariant-loop-i
invariant-loop-i l = number_of l.bytes ≡ put (number_of l.initial.bytes) l.self.at l.i (part l.number 0 l.i)
