use Rattle.std.proofs.Common.{◌∙◌, map, arith, rules, pow_mono}
use Rattle.std.specs.List.{range_with_len}
use Rattle.std.proofs.lemmas.Iterator.{YieldsList-from_range, YieldsList-from_map}
use Rattle.std.proofs.lemmas.Iterator.Consumers.{sum_from_yields_List, fits_from_yields_list}
use Rattle.image.specs.Bits.{number_of}
use Rattle.image.proofs.Parts.{part_lt}
use Rattle.bits.proofs.Sums.{bit_at, sum_of_bits}
use Rattle.bits.proofs.string.BitField.number.Goals as goal

pub sum-requires-clause-fits : goal.sum-requires-clause-fits
sum-requires-clause-fits c =
    let n = number_of c.args.bytes.now in
    let bits = map (bit_at n c.args.self.now.at) (range_with_len 0 c.args.self.now.bits) in
    fits_from_yields_list {all = bits} c.map.result _ (YieldsList-from_map _ (bit_at n c.args.self.now.at) (YieldsList-from_range 0 c.args.self.now.bits c.args.self.now.bits c.map.ensures.source (omega arith)) c.map.ensures.closure (λ x r q k. search rules))
    (omega (arith, sum_of_bits n c.args.self.now.at c.args.self.now.bits c.args.self.now.few, part_lt n c.args.self.now.at c.args.self.now.bits, pow_mono {i = c.args.self.now.bits} {j = 32} c.args.self.now.few))

pub returns : goal.returns
returns c =
    let n = number_of c.args.bytes.now in
    sum_from_yields_List {all = map (bit_at n c.args.self.now.at) (range_with_len 0 c.args.self.now.bits)} c.map.result c.sum.result c.sum.ensures.ran (YieldsList-from_map _ (bit_at n c.args.self.now.at) (YieldsList-from_range 0 c.args.self.now.bits c.args.self.now.bits c.map.ensures.source (omega arith)) c.map.ensures.closure (λ x r q k. search rules))
    ∙ sum_of_bits n c.args.self.now.at c.args.self.now.bits c.args.self.now.few
