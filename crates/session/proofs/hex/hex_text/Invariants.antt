use Rattle.std.proofs.Common.{◌≡◌, ◌++◌, drop, string_bytes}
use Rattle.session.specs.Sixteen.{hex_text}
use Rattle.session.proofs.hex.hex_text.Given as goal

abbrev pub invariant-loop-b : goal.invariant-loop-b
invariant-loop-b l = string_bytes l.text ++ hex_text (drop l.b-index l.bytes) ≡ hex_text l.bytes
