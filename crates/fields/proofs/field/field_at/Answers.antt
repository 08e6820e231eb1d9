use Rattle.std.proofs.Common.{arith}
use Rattle.reader.specs.Means.{rows_held}
use Rattle.fields.proofs.Places.{ends_within}
use Rattle.fields.proofs.field.field_at.Goals as goal

pub invariant_of-result : goal.invariant_of-result
invariant_of-result c =
    record {
      few = omega (arith, c.field_bits.ensures.few);
      ends = omega (arith, c.bits_before.ensures, c.field_bits.ensures.value, ends_within (rows_held c.args.sheet.now) c.args.i c.args.sheet.now.accepted c.requires);
    }

pub returns-clause-inside : goal.returns-clause-inside
returns-clause-inside c = omega (arith, c.bits_before.ensures, c.field_bits.ensures.value, ends_within (rows_held c.args.sheet.now) c.args.i c.args.sheet.now.accepted c.requires)
