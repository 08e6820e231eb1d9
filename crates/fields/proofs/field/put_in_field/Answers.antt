use Rattle.std.proofs.Common.{◌^◌, ◌<◌, sym, ap, ◌∙◌, subst, ap₂}
use Rattle.image.specs.Bits.{number_of, put}
use Rattle.image.specs.Reading.{widths, total, numbers_in}
use Rattle.image.proofs.Layouts.{numbers_put, put_within}
use Rattle.reader.specs.Means.{rows_held}
use Rattle.fields.proofs.field.put_in_field.Goals as goal

pub returns : goal.returns
returns c =
    let ws = widths (rows_held c.args.sheet.now) in
    let n = number_of c.args.bytes.now in
    let i = c.args.i in
    let v = c.args.number in
    let written = c.put.ensures ∙ ap₂ (λ at w. put n at w v) c.field_at.ensures.at c.field_at.ensures.bits in
    record {
      numbers = ap (numbers_in ws) written ∙ numbers_put ws n i 0 v c.requires.inside c.requires.room;
      still_spare = subst (λ x. x < 2 ^ total ws) (sym written) (put_within ws n i 0 v c.requires.inside c.requires.room c.requires.spare);
    }
