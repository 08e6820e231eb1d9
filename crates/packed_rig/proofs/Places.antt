-- Modes and values, by the fields in which they stand.
use Rattle.std.proofs.Common.{◌≡◌, ℕ, ◌+◌, ◌^◌, ◌<◌, ◌≤◌, true, false, cond, not, ◌&&◌, leb, List, [], length, get_or, ℤ, pos, negsuc, ◌+ℤ◌, Some, sym, ap, ◌∙◌, subst, ap₂, arith, pow_mono, w32, SFits, to_z, of_z, Ok}
use lib.Signed.{le_z}
use Rattle.std.proofs.lemmas.Int.{ints, to_z-of_z, to_z_pos}
use Rattle.std.proofs.lemmas.Bool.{and_parts, leb-true, not-true}
use Rattle.sheet.specs.declared.rows.Element.{Element}
use Rattle.sheet.specs.Lookup.{component_at, element_at}
use Rattle.sheet.specs.Rules.{is_port, has_mode}
use Rattle.sheet.specs.Sections.{Sheet, rows, components, elements}
use Rattle.sheet.specs.Typed.{component_entry, element_entry}
use Rattle.sheet.proofs.Lookups.{is_cases, is_at}
use Rattle.sheet.proofs.Meaning.{there_inside, held_holds}
use Rattle.running.specs.States.{held_of, in_range, is_held}
use Rattle.image.specs.Fields.{above, value_bits}
use Rattle.image.specs.Reading.{widths, numbers_in, value_from, state_from}
use Rattle.image.proofs.Changes.{mode_width, value_width_at, value_read}
use Rattle.image.proofs.Entries.{ranged_at, mode_has_room, mode_bits_few, value_bits_few, held_standing}
use Rattle.image.proofs.Images.{length_widths}
use Rattle.image.proofs.Layouts.{length_numbers}
use Rattle.moves.specs.Places.{can_hold}

module _ (s : Sheet) where
  -- ---- modes

  -- a mode of component c has a field with room for it
  pub record ModePlace (c m : ℕ) : Type 0 where
    pub inside : c < length (rows s components)
    pub room : m < 2 ^ get_or (widths s) c 0

  pub mode_place : (c m : ℕ) → has_mode s c m ≡ true → ModePlace c m
  mode_place c m h =
      let p = is_cases (component_at s c) (λ x. leb m x.modes) h in
      let q = there_inside component_entry (rows s components) c p.0 p.1 in
      let r = get_or (rows s components) c [] in
      record {
        inside = q.0;
        room = subst (λ w. m < 2 ^ w) (sym (mode_width s c q.0)) (mode_has_room r p.0 m (held_holds (component_entry r) p.0 q.1) (leb-true m p.0.modes p.2));
      }

  pub field_of_mode : (c : ℕ) → c < length (rows s components) → c < length (widths s)
  field_of_mode c l = omega (arith, length_widths s)

  pub mode_bits_small : (c : ℕ) → c < length (rows s components) → get_or (widths s) c 0 ≤ 4
  mode_bits_small c l = omega (arith, mode_width s c l, mode_bits_few (get_or (rows s components) c []))

  -- ---- values

  module _ (e : ℕ) (x : Element) (here : element_at s e ≡ Some x) where
    there : e < length (rows s elements)
    there = (there_inside element_entry (rows s elements) e x here).0

    entry_is : element_entry (get_or (rows s elements) e []) ≡ Ok (Some x)
    entry_is = held_holds (element_entry (get_or (rows s elements) e [])) x (there_inside element_entry (rows s elements) e x here).1

    pub field_of_value : length (rows s components) + e < length (widths s)
    field_of_value = omega (arith, there, length_widths s)

    pub value_bits_small : get_or (widths s) (length (rows s components) + e) 0 ≤ 16
    value_bits_small = omega (arith, value_width_at s e there, value_bits_few (get_or (rows s elements) e []))

    -- a held value that is read
    pub value_told : (ns : List ℕ) → length ns ≡ length (rows s components) + length (rows s elements) → is_held s e ≡ true → x.lowest +ℤ pos (get_or ns (length (rows s components) + e) 0) ≡ held_of (state_from s ns) e
    value_told ns long h =
        let n = get_or ns (length (rows s components) + e) 0 in
        let held : is_port x ≡ false = not-true (is_port x) (is_at (element_at s e) (λ y. not (is_port y)) x here h) in
        sym (value_read s ns long e there ∙ ap (λ y. value_from y n) entry_is ∙ ap (λ b. cond b (pos 0) (x.lowest +ℤ pos n)) held)

    -- a value of the range of a held element has a field with room for it
    pub record ValuePlace (v : ℤ) : Type 0 where
      pub inside : e < length (rows s elements)
      pub within : in_range x v ≡ true
      pub room : above x.lowest v < 2 ^ get_or (widths s) (length (rows s components) + e) 0
      pub back : value_from (element_entry (get_or (rows s elements) e [])) (above x.lowest v) ≡ v

    pub value_place : (v : ℤ) → can_hold s e v ≡ true → ValuePlace v
    value_place v h =
        let r = get_or (rows s elements) e [] in
        let p = and_parts (not (is_port x)) (in_range x v) (is_at (element_at s e) (λ y. not (is_port y) && in_range y v) x here h) in
        let t = held_standing r x v entry_is (not-true (is_port x) p.0) p.1 in
        record {
          inside = there;
          within = p.1;
          room = subst (λ w. above x.lowest v < 2 ^ w) (sym (value_width_at s e there)) (subst (λ n. n < 2 ^ value_bits (element_entry r)) (sym t.1) t.0.room);
          back = ap (value_from (element_entry r)) t.1 ∙ t.0.back;
        }

-- the numbers in all fields
pub numbers_long : (s : Sheet) (n : ℕ) → length (numbers_in (widths s) n) ≡ length (rows s components) + length (rows s elements)
numbers_long s n = length_numbers (widths s) n ∙ length_widths s

-- ---- numbers that are small

pub small_mode : (bits n : ℕ) → bits ≤ 4 → n < 2 ^ bits → n < 256
small_mode bits n l h = omega (arith, h, pow_mono {i = bits} {j = 4} l)

pub small_value : (bits n : ℕ) → bits ≤ 16 → n < 2 ^ bits → n < 65536
small_value bits n l h = omega (arith, h, pow_mono {i = bits} {j = 16} l)

-- a value that far above the lowest is a number of 32 bits
sum_fits : (low : ℤ) (n : ℕ) → le_z (negsuc 32767) low ≡ true → le_z low (pos 32767) ≡ true → n < 65536 → SFits w32 (low +ℤ pos n)
sum_fits low n a b l = record { sfits = grind (arith, ints) }

pub below_most : (v high : ℤ) → le_z v high ≡ true → le_z high (pos 32767) ≡ true → le_z v (pos 32767) ≡ true
below_most v high a b = grind (arith, ints)

-- a number read from an element's field, and the value that it stands for
module _ (s : Sheet) (e : ℕ) (x : Element) (here : element_at s e ≡ Some x) (m n : ℕ) (count : m ≡ length (rows s components)) (room : n < 2 ^ get_or (widths s) (m + e) 0) where
  pub number_small : n < 65536
  number_small = small_value (get_or (widths s) (length (rows s components) + e) 0) n (value_bits_small s e x here) (subst (λ k. n < 2 ^ get_or (widths s) (k + e) 0) count room)

  module _ (low : SFits w32 x.lowest) where
    sum_is : to_z w32 (of_z w32 x.lowest) +ℤ to_z w32 n ≡ x.lowest +ℤ pos n
    sum_is = ap₂ (λ a b. a +ℤ b) (to_z-of_z w32 x.lowest low) (to_z_pos w32 n (omega (arith, number_small)))

    sum_small : SFits w32 (x.lowest +ℤ pos n)
    sum_small = let g = ranged_at s e x here in sum_fits x.lowest n g.least (below_most x.lowest x.highest g.ordered g.most) number_small

    pub value_fits : SFits w32 (to_z w32 (of_z w32 x.lowest) +ℤ to_z w32 n)
    value_fits = subst (λ z. SFits w32 z) (sym sum_is) sum_small

    pub value_is : to_z w32 (of_z w32 (to_z w32 (of_z w32 x.lowest) +ℤ to_z w32 n)) ≡ x.lowest +ℤ pos n
    value_is = to_z-of_z w32 (to_z w32 (of_z w32 x.lowest) +ℤ to_z w32 n) value_fits ∙ sum_is
