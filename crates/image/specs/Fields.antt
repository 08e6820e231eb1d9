-- The image of a state: the fields, one behind the other, lowest bit first, eight bits to a byte.
use Rattle.std.specs.Prelude.{ℕ, ◌+◌, ◌*◌, ◌^◌, cond, List, [], ◌∷◌, ◌++◌, ℤ, ◌-ℤ◌, unsigned_abs, Err, None, Ok, Some}
use Rattle.std.specs.Simd.Lanes.{zip2}
use Rattle.sheet.specs.Entry.{Entry}
use Rattle.sheet.specs.declared.rows.Component.{Component}
use Rattle.sheet.specs.declared.rows.Element.{Element}
use Rattle.sheet.specs.Rules.{is_port}
use Rattle.sheet.specs.Sections.{Row, Sheet, rows, components, elements}
use Rattle.sheet.specs.Typed.{component_entry, element_entry}
use Rattle.running.specs.States.{State}
use Rattle.image.specs.Bits.{bit_length, low_bytes, bytes_for}

-- A field: how many bits it has, and the number in them.
pub record Field : Type 0 where
  pub bits : ℕ
  pub value : ℕ

-- how far a number lies above another that is not higher
abbrev pub above : (lowest value : ℤ) → ℕ
above low v = unsigned_abs (v -ℤ low)

-- the bits of a component's mode: as many as its number of modes needs
abbrev pub mode_bits : Entry Component → ℕ
mode_bits (Ok None) = 0
mode_bits (Err _) = 0
mode_bits (Ok (Some x)) = bit_length x.modes

-- the bits of a held element's value: as many as the span of its range needs; blank rows and ports have none
abbrev pub value_bits : Entry Element → ℕ
value_bits (Ok None) = 0
value_bits (Err _) = 0
value_bits (Ok (Some x)) = cond (is_port x) 0 (bit_length (above x.lowest x.highest))

-- the number that stands for a held element's value: the value less the lowest
abbrev pub value_number : Entry Element → ℤ → ℕ
value_number (Ok None) v = 0
value_number (Err _) v = 0
value_number (Ok (Some x)) v = cond (is_port x) 0 (above x.lowest v)

abbrev pub mode_field : Row → ℕ → Field
mode_field r m = record { bits = mode_bits (component_entry r); value = m }

abbrev pub value_field : Row → ℤ → Field
value_field r v = record { bits = value_bits (element_entry r); value = value_number (element_entry r) v }

-- The fields of an image, in order: for each component its mode, then for each element its value.
abbrev pub fields : Sheet → State → List Field
fields s w = zip2 mode_field (rows s components) w.modes ++ zip2 value_field (rows s elements) w.held

-- the bits of some fields
abbrev pub bits_of : List Field → ℕ
bits_of [] = 0
bits_of (f ∷ fs) = f.bits + bits_of fs

-- the number of the bit string that some fields make, the first field in the lowest bits
abbrev pub bit_string : List Field → ℕ
bit_string [] = 0
bit_string (f ∷ fs) = f.value + 2 ^ f.bits * bit_string fs

-- The image of a state of a sheet: as many bytes as the fields need, with 0 in the spare bits.
abbrev pub image : Sheet → State → List ℕ
image s w = low_bytes (bytes_for (bits_of (fields s w))) (bit_string (fields s w))
