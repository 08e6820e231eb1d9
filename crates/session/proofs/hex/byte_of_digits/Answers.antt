use Rattle.std.proofs.Common.{arith}
use Rattle.std.specs.Char.{digit_value}
use Rattle.session.proofs.Digits.{digit_small}
use Rattle.session.proofs.hex.byte_of_digits.Goals as goal

pub overflow_mul-result : goal.overflow_mul-result
overflow_mul-result c = record { fits = omega (arith, digit_small (digit_value c.args.high) c.in_ok-high.high c.in_ok-high.ensures) }

pub overflow_add-result : goal.overflow_add-result
overflow_add-result c = record { fits = omega (arith, digit_small (digit_value c.args.high) c.in_ok-high.high c.in_ok-high.ensures, digit_small (digit_value c.args.low) c.in_ok-low.low c.in_ok-low.ensures) }
