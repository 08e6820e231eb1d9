use Rattle.std.proofs.Common.{◌≡◌, ◌+◌, length, ◌∙◌, arith}
use Rattle.image.specs.Reading.{widths, total}
use Rattle.image.proofs.Images.{length_widths}
use Rattle.image.proofs.Layouts.{place_all}
use Rattle.image.proofs.Proved.{total_few}
use Rattle.reader.specs.Means.{rows_held}
use Rattle.sheet.specs.Sections.{components, elements}
use Rattle.sheet.proofs.Shapes.{count_is}
use Rattle.fields.proofs.place.image_length.Goals as goal

-- the fields are those of all components and elements
all : (c : goal.After-unwrap_or-elements) → c.unwrap_or-components.result + c.unwrap_or-elements.result ≡ length (widths (rows_held c.args.sheet.now))
all c =
    let s = rows_held c.args.sheet.now in
    let a = c.args.sheet.now.accepted in
    let m = c.unwrap_or-components.ensures ∙ count_is s components a (omega arith) c.count.result c.count.ensures in
    let n = c.unwrap_or-elements.ensures ∙ count_is s elements a (omega arith) c.count-2.result c.count-2.ensures in
    omega (arith, m, n, length_widths s)

pub bits_before-requires : goal.bits_before-requires
bits_before-requires c = omega (arith, all c)

pub returns : goal.returns
returns c =
    let s = rows_held c.args.sheet.now in
    let a = c.args.sheet.now.accepted in
    let m = c.unwrap_or-components.ensures ∙ count_is s components a (omega arith) c.count.result c.count.ensures in
    let n = c.unwrap_or-elements.ensures ∙ count_is s elements a (omega arith) c.count-2.result c.count-2.ensures in
    let bits : c.bits_before.result ≡ total (widths s) = c.bits_before.ensures ∙ place_all (widths s) (c.unwrap_or-components.result + c.unwrap_or-elements.result) (omega (arith, m, n, length_widths s)) in
    let few = total_few s a in
    record { value = omega (arith, bits, c.div_ceil.ensures); few = omega (arith, bits, few, c.div_ceil.ensures) }
