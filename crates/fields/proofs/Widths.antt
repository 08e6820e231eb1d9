-- The widths of fields, by what is there.
use Rattle.std.proofs.Common.{◌≡◌, ℕ, ◌-◌, ◌<◌, ◌≤◌, [], length, get_or, sym, refl, ap, ◌∙◌, arith, Err, None, Ok, Some}
use Rattle.sheet.specs.Entry.{Entry}
use Rattle.sheet.specs.declared.rows.Component.{Component}
use Rattle.sheet.specs.declared.rows.Element.{Element}
use Rattle.sheet.specs.Lookup.{held, component_at, element_at}
use Rattle.sheet.specs.Sections.{Sheet, rows, components, elements}
use Rattle.sheet.specs.Typed.{component_entry, element_entry}
use Rattle.running.proofs.Components.{there_at}
use Rattle.image.specs.Fields.{mode_bits, value_bits}
use Rattle.image.specs.Reading.{widths}
use Rattle.image.proofs.Changes.{mode_width, value_width}
use Rattle.image.proofs.Entries.{mode_bits_few, value_bits_few}
use Rattle.image.proofs.Images.{length_widths}
use Rattle.fields.specs.Held.{bits_of_mode, bits_of_value}

held_mode : (e : Entry Component) → mode_bits e ≡ bits_of_mode (held e)
held_mode (Ok None) = refl
held_mode (Err _) = refl
held_mode (Ok (Some x)) = refl

held_value : (e : Entry Element) → value_bits e ≡ bits_of_value (held e)
held_value (Ok None) = refl
held_value (Err _) = refl
held_value (Ok (Some x)) = refl

-- the width of a mode's field, and of a value's
pub record Width (s : Sheet) (i r : ℕ) : Type 0 where
  pub value : r ≡ get_or (widths s) i 0
  pub few : r ≤ 16

pub mode_width_is : (s : Sheet) (i n r : ℕ) → n ≡ length (rows s components) → i < n → r ≡ bits_of_mode (component_at s i) → Width s i r
mode_width_is s i n r e l h =
    let inside : i < length (rows s components) = omega (arith, e) in
    let row = component_entry (get_or (rows s components) i []) in
    let same : r ≡ mode_bits row = h ∙ ap bits_of_mode (there_at component_entry (rows s components) i inside) ∙ sym (held_mode row) in
    record { value = same ∙ sym (mode_width s i inside); few = omega (arith, same, mode_bits_few (get_or (rows s components) i [])) }

pub value_width_is : (s : Sheet) (i n r : ℕ) → n ≡ length (rows s components) → n ≤ i → i < length (widths s) → r ≡ bits_of_value (element_at s (i - n)) → Width s i r
value_width_is s i n r e l m h =
    let k = i - length (rows s components) in
    let inside : k < length (rows s elements) = omega (arith, e, m, length_widths s) in
    let row = element_entry (get_or (rows s elements) k []) in
    let same : r ≡ value_bits row = h ∙ ap (λ n. bits_of_value (element_at s (i - n))) e ∙ ap bits_of_value (there_at element_entry (rows s elements) k inside) ∙ sym (held_value row) in
    record { value = same ∙ sym (value_width s i (omega (arith, e)) inside); few = omega (arith, same, value_bits_few (get_or (rows s elements) k [])) }
