use Rattle.std.proofs.Common.{◌∙◌, arith}
use Rattle.reader.specs.Means.{rows_held}
use Rattle.sheet.specs.Sections.{components}
use Rattle.sheet.proofs.Shapes.{count_is}
use Rattle.fields.proofs.Widths.{mode_width_is, value_width_is}
use Rattle.fields.proofs.width.field_bits.Goals as goal

pub returns-then-i-components : goal.returns-then-i-components
returns-then-i-components c =
    let s = rows_held c.args.sheet.now in
    let n = c.unwrap_or-components.ensures ∙ count_is s components c.args.sheet.now.accepted (omega arith) c.count.result c.count.ensures in
    let w = mode_width_is s c.args.i c.unwrap_or-components.result c.mode_bits.result n c.if-i-components.true c.mode_bits.ensures in
    record { value = w.value; few = w.few }

pub returns-else-i-components : goal.returns-else-i-components
returns-else-i-components c =
    let s = rows_held c.args.sheet.now in
    let n = c.unwrap_or-components.ensures ∙ count_is s components c.args.sheet.now.accepted (omega arith) c.count.result c.count.ensures in
    let w = value_width_is s c.args.i c.unwrap_or-components.result c.value_bits.result n c.if-i-components.false c.requires c.value_bits.ensures in
    record { value = w.value; few = w.few }
