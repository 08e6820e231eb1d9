use Rattle.std.proofs.Common.{◌≡◌, ◌+◌, ◌<◌, length, get_or, pos, ◌+ℤ◌, sym, ap, ◌∙◌, subst, arith, w32, SFits, rules}
use Rattle.image.specs.Bits.{number_of}
use Rattle.image.specs.Reading.{widths, numbers_in}
use Rattle.image.proofs.Images.{length_widths}
use Rattle.sheet.specs.Sections.{rows, components, elements}
use Rattle.sheet.proofs.Shapes.{count_is, sized}
use Rattle.packed_rig.specs.Tables.{rows_in}
use Rattle.packed_rig.proofs.Places.{field_of_value, value_told, numbers_long, number_small, value_fits, value_is}
use Rattle.packed_rig.proofs.store.TablesView.held.Goals as goal

pub overflow_add-components : goal.overflow_add-components
overflow_add-components c =
    let s = rows_in c.args.self.now in
    let a = c.args.self.now.sheet.accepted in
    let n = c.unwrap_or-components.ensures ∙ count_is s components a (omega arith) c.count.result c.count.ensures in
    let inside = field_of_value s c.args.element c.in-Some.x (sym c.in-Some.ensures) in
    record { fits = omega (arith, n, inside, length_widths s, (sized s components a (omega arith)).few, (sized s elements a (omega arith)).few) }

pub number_in_field-number-requires : goal.number_in_field-number-requires
number_in_field-number-requires c =
    let s = rows_in c.args.self.now in
    let e = c.args.element in
    let n = c.unwrap_or-components.ensures ∙ count_is s components c.args.self.now.sheet.accepted (omega arith) c.count.result c.count.ensures in
    subst (λ k. k + e < length (widths s)) (sym n) (field_of_value s e c.in-Some.x (sym c.in-Some.ensures))

pub overflow_cast-result : goal.overflow_cast-result
overflow_cast-result c =
    let s = rows_in c.args.self.now in
    let n = c.unwrap_or-components.ensures ∙ count_is s components c.args.self.now.sheet.accepted (omega arith) c.count.result c.count.ensures in
    let small = number_small s c.args.element c.in-Some.x (sym c.in-Some.ensures) c.unwrap_or-components.result c.number_in_field-number.result n c.number_in_field-number.ensures.room in
    record { sfits = omega (arith, small) }

pub overflow_add-result : goal.overflow_add-result
overflow_add-result c =
    let s = rows_in c.args.self.now in
    let x = c.in-Some.x in
    let low : SFits w32 x.lowest = search rules in
    let n = c.unwrap_or-components.ensures ∙ count_is s components c.args.self.now.sheet.accepted (omega arith) c.count.result c.count.ensures in
    value_fits s c.args.element x (sym c.in-Some.ensures) c.unwrap_or-components.result c.number_in_field-number.result n c.number_in_field-number.ensures.room low

pub returns : goal.returns
returns c held =
    let s = rows_in c.args.self.now in
    let e = c.args.element in
    let x = c.in-Some.x in
    let here = sym c.in-Some.ensures in
    let k = number_of c.args.self.now.state.bytes in
    let ns = numbers_in (widths s) k in
    let low : SFits w32 x.lowest = search rules in
    let n = c.unwrap_or-components.ensures ∙ count_is s components c.args.self.now.sheet.accepted (omega arith) c.count.result c.count.ensures in
    let read : c.number_in_field-number.result ≡ get_or ns (length (rows s components) + e) 0 = c.number_in_field-number.ensures.value ∙ ap (λ m. get_or ns (m + e) 0) n in
    value_is s e x here c.unwrap_or-components.result c.number_in_field-number.result n c.number_in_field-number.ensures.room low
    ∙ ap (λ y. x.lowest +ℤ pos y) read
    ∙ value_told s e x here ns (numbers_long s k) held
