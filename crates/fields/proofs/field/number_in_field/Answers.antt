use Rattle.std.proofs.Common.{sym, ◌∙◌, ap₂}
use Rattle.image.specs.Bits.{number_of, part}
use Rattle.image.specs.Reading.{widths}
use Rattle.image.proofs.Layouts.{get_or_numbers}
use Rattle.reader.specs.Means.{rows_held}
use Rattle.fields.proofs.field.number_in_field.Goals as goal

pub returns-clause-value : goal.returns-clause-value
returns-clause-value c =
    let n = number_of c.args.bytes.now in
    c.number.ensures ∙ ap₂ (part n) c.field_at.ensures.at c.field_at.ensures.bits ∙ sym (get_or_numbers (widths (rows_held c.args.sheet.now)) n c.args.i 0 c.requires)
