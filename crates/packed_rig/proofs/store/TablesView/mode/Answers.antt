use Rattle.std.proofs.Common.{◌<◌, sym, ◌∙◌, subst, arith}
use Rattle.image.specs.Bits.{number_of}
use Rattle.image.specs.Reading.{widths, numbers_in}
use Rattle.image.proofs.Changes.{mode_read, mode_past}
use Rattle.sheet.specs.Sections.{components}
use Rattle.sheet.proofs.Shapes.{count_is}
use Rattle.packed_rig.specs.Tables.{rows_in}
use Rattle.packed_rig.proofs.Places.{field_of_mode, mode_bits_small, numbers_long, small_mode}
use Rattle.packed_rig.proofs.store.TablesView.mode.Goals as goal

pub number_in_field-requires : goal.number_in_field-requires
number_in_field-requires c =
    let s = rows_in c.args.self.now in
    let n = c.unwrap_or-components.ensures ∙ count_is s components c.args.self.now.sheet.accepted (omega arith) c.count.result c.count.ensures in
    field_of_mode s c.args.component (subst (λ n. c.args.component < n) n c.if-component-components.true)

pub overflow_cast-result : goal.overflow_cast-result
overflow_cast-result c =
    let s = rows_in c.args.self.now in
    let n = c.unwrap_or-components.ensures ∙ count_is s components c.args.self.now.sheet.accepted (omega arith) c.count.result c.count.ensures in
    record { fits = small_mode _ c.number_in_field.result (mode_bits_small s c.args.component (subst (λ n. c.args.component < n) n c.if-component-components.true)) c.number_in_field.ensures.room }

pub returns-then-component-components : goal.returns-then-component-components
returns-then-component-components c =
    let x = c.args.self.now in
    let s = rows_in x in
    let n = c.unwrap_or-components.ensures ∙ count_is s components x.sheet.accepted (omega arith) c.count.result c.count.ensures in
    let k = number_of x.state.bytes in
    c.number_in_field.ensures.value ∙ sym (mode_read s (numbers_in (widths s) k) (numbers_long s k) c.args.component (subst (λ n. c.args.component < n) n c.if-component-components.true))

pub returns-else-component-components : goal.returns-else-component-components
returns-else-component-components c =
    let x = c.args.self.now in
    let s = rows_in x in
    let n = c.unwrap_or-components.ensures ∙ count_is s components x.sheet.accepted (omega arith) c.count.result c.count.ensures in
    let k = number_of x.state.bytes in
    sym (mode_past s (numbers_in (widths s) k) (numbers_long s k) c.args.component (omega (arith, n, c.if-component-components.false)))
