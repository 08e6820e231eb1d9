use Rattle.std.proofs.Common.{◌≡◌, ◌+◌, ◌<◌, length, set, sym, refl, ap, ◌∙◌, subst, ap₂, arith, w32, SFits, rules}
use Rattle.std.proofs.lemmas.Int.{to_z-of_z}
use Rattle.image.specs.Bits.{number_of}
use Rattle.image.specs.Fields.{above}
use Rattle.image.specs.Reading.{widths, numbers_in, state_from}
use Rattle.image.proofs.Changes.{value_set}
use Rattle.sheet.specs.Sections.{components, elements}
use Rattle.sheet.proofs.Shapes.{count_is, sized}
use Rattle.packed_rig.specs.Tables.{rows_in}
use Rattle.packed_rig.proofs.Places.{field_of_value, value_place, numbers_long}
use Rattle.packed_rig.proofs.store.TablesStore.set_value.Goals as goal

pub overflow_add-components : goal.overflow_add-components
overflow_add-components c =
    let s = rows_in c.args.self.now in
    let a = c.args.self.now.sheet.accepted in
    let n = c.unwrap_or-components.ensures ∙ count_is s components a (omega arith) c.count.result c.count.ensures in
    let p = value_place s c.args.element c.in-Some.x (sym c.in-Some.ensures) c.args.value c.requires in
    record { fits = omega (arith, n, p.inside, (sized s components a (omega arith)).few, (sized s elements a (omega arith)).few) }

pub put_in_field-requires : goal.put_in_field-requires
put_in_field-requires c =
    let s = rows_in c.args.self.now in
    let e = c.args.element in
    let x = c.in-Some.x in
    let here = sym c.in-Some.ensures in
    let n = c.unwrap_or-components.ensures ∙ count_is s components c.args.self.now.sheet.accepted (omega arith) c.count.result c.count.ensures in
    let low : SFits w32 c.in-Some.x.lowest = search rules in
    let number : c.abs_diff.result ≡ above c.in-Some.x.lowest c.args.value = c.abs_diff.ensures ∙ ap₂ above (to_z-of_z w32 c.in-Some.x.lowest low) (to_z-of_z w32 c.args.value c.ranges.value) in
    let p = value_place s e x here c.args.value c.requires in
    record {
      inside = subst (λ k. k + e < length (widths s)) (sym n) (field_of_value s e x here);
      room = rw (n, number) p.room;
      spare = c.args.self.now.spare;
    }

pub invariant_of-self : goal.invariant_of-self
invariant_of-self c = record { spare = c.put_in_field.ensures.still_spare }

pub returns : goal.returns
returns c =
    let x = c.args.self.now in
    let s = rows_in x in
    let e = c.args.element in
    let v = c.args.value in
    let k = number_of x.state.bytes in
    let ns = numbers_in (widths s) k in
    let n = c.unwrap_or-components.ensures ∙ count_is s components x.sheet.accepted (omega arith) c.count.result c.count.ensures in
    let p = value_place s e c.in-Some.x (sym c.in-Some.ensures) v c.requires in
    let low : SFits w32 c.in-Some.x.lowest = search rules in
    let number : c.abs_diff.result ≡ above c.in-Some.x.lowest c.args.value = c.abs_diff.ensures ∙ ap₂ above (to_z-of_z w32 c.in-Some.x.lowest low) (to_z-of_z w32 c.args.value c.ranges.value) in
    let numbers = c.put_in_field.ensures.numbers ∙ ap₂ (λ m y. set ns (m + e) y) n number in
    record {
      rows = refl;
      state = ap (state_from s) numbers ∙ value_set s ns (numbers_long s k) e (above c.in-Some.x.lowest v) v p.inside p.back;
    }
