use Rattle.std.proofs.Common.{◌≡◌, ◌++◌, drop, vec_items}
use Rattle.std.specs.Option.{option_map}
use Rattle.session.specs.Sixteen.{hex_of}
use Rattle.session.proofs.Digits.{bytes_in}
use Rattle.session.proofs.hex.hex_bytes.Given as goal

abbrev pub invariant-loop-high : goal.invariant-loop-high
invariant-loop-high l = option_map (λ bs. vec_items l.bytes ++ bs) (bytes_in (drop l.high-index l.pairs)) ≡ hex_of l.text
