use Rattle.std.proofs.Common.{refl, arith}
use Rattle.image.proofs.Lengths.{holds, least}
use Rattle.bits.proofs.length.bit_length.Goals as goal

pub returns : goal.returns
returns c = record { value = refl; holds = holds c.args.n (omega arith); least = λ w h. least c.args.n w (omega arith) h }
