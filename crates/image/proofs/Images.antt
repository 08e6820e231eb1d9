-- A state, the numbers in its fields, and its image.
use Rattle.std.proofs.Common.{◌≡◌, ℕ, suc, ◌+◌, ◌*◌, ◌^◌, ◌<◌, List, [], ◌∷◌, ◌++◌, map, length, get_or, take, drop, ℤ, pos, refl, ap, ◌∙◌, ap₂, arith}
use mathlib.Core.List.{map-append}
use lib.Lanes.{zip2}
use Rattle.std.proofs.lemmas.List.{length-append, length-map, length-take-le, length-drop, take_at, drop_at}
use Rattle.sheet.specs.Sections.{Row, Sheet, rows, components, elements}
use Rattle.sheet.specs.Typed.{component_entry, element_entry}
use Rattle.running.specs.States.{State}
use Rattle.image.specs.Bits.{low_bytes, bytes_for}
use Rattle.image.specs.Fields.{Field, mode_bits, value_bits, value_number, mode_field, value_field, fields, bits_of, bit_string, image}
use Rattle.image.specs.Reading.{widths, total, numbers_in, value_from, state_from, state_in, state_read, Within}
use Rattle.image.proofs.Entries.{Standing, number_back}
use Rattle.image.proofs.Layouts.{length_numbers, join, join_lt, join_numbers, within_numbers, numbers_join, number_of_string}

-- the numbers that a state has in its fields
abbrev pub numbers_of : Sheet → State → List ℕ
numbers_of s w = w.modes ++ zip2 (λ r v. value_number (element_entry r) v) (rows s elements) w.held

-- ---- fields as widths and numbers

bits_total : (fs : List Field) → bits_of fs ≡ total (map (λ f. f.bits) fs)
bits_total [] = refl
bits_total (f ∷ fs) = ap (λ n. f.bits + n) (bits_total fs)

string_join : (fs : List Field) → bit_string fs ≡ join (map (λ f. f.bits) fs) (map (λ f. f.value) fs)
string_join [] = refl
string_join (f ∷ fs) = ap (λ n. f.value + 2 ^ f.bits * n) (string_join fs)

mode_widths : (rs : List Row) (ms : List ℕ) → length ms ≡ length rs → map (λ (f : Field). f.bits) (zip2 mode_field rs ms) ≡ map (λ r. mode_bits (component_entry r)) rs
mode_widths [] ms e = refl
mode_widths (r ∷ rs) [] e = absurd (omega arith)
mode_widths (r ∷ rs) (m ∷ ms) e = ap (λ l. mode_bits (component_entry r) ∷ l) (mode_widths rs ms (omega arith))

mode_numbers : (rs : List Row) (ms : List ℕ) → length ms ≡ length rs → map (λ (f : Field). f.value) (zip2 mode_field rs ms) ≡ ms
mode_numbers [] [] e = refl
mode_numbers [] (m ∷ ms) e = absurd (omega arith)
mode_numbers (r ∷ rs) [] e = absurd (omega arith)
mode_numbers (r ∷ rs) (m ∷ ms) e = ap (λ l. m ∷ l) (mode_numbers rs ms (omega arith))

value_widths : (rs : List Row) (vs : List ℤ) → length vs ≡ length rs → map (λ (f : Field). f.bits) (zip2 value_field rs vs) ≡ map (λ r. value_bits (element_entry r)) rs
value_widths [] vs e = refl
value_widths (r ∷ rs) [] e = absurd (omega arith)
value_widths (r ∷ rs) (v ∷ vs) e = ap (λ l. value_bits (element_entry r) ∷ l) (value_widths rs vs (omega arith))

value_numbers : (rs : List Row) (vs : List ℤ) → map (λ (f : Field). f.value) (zip2 value_field rs vs) ≡ zip2 (λ r v. value_number (element_entry r) v) rs vs
value_numbers [] vs = refl
value_numbers (r ∷ rs) [] = refl
value_numbers (r ∷ rs) (v ∷ vs) = ap (λ l. value_number (element_entry r) v ∷ l) (value_numbers rs vs)

-- a state with a place for each component and element
pub record Placed (s : Sheet) (w : State) : Type 0 where
  pub modes_long : length w.modes ≡ length (rows s components)
  pub held_long : length w.held ≡ length (rows s elements)

module _ (s : Sheet) (w : State) (p : Placed s w) where
  widths_are : map (λ (f : Field). f.bits) (fields s w) ≡ widths s
  widths_are =
      map-append (λ (f : Field). f.bits) (zip2 mode_field (rows s components) w.modes) (zip2 value_field (rows s elements) w.held)
      ∙ ap₂ (λ xs ys. xs ++ ys) (mode_widths (rows s components) w.modes p.modes_long) (value_widths (rows s elements) w.held p.held_long)

  numbers_are : map (λ (f : Field). f.value) (fields s w) ≡ numbers_of s w
  numbers_are =
      map-append (λ (f : Field). f.value) (zip2 mode_field (rows s components) w.modes) (zip2 value_field (rows s elements) w.held)
      ∙ ap₂ (λ xs ys. xs ++ ys) (mode_numbers (rows s components) w.modes p.modes_long) (value_numbers (rows s elements) w.held)

  -- the image by widths and numbers
  pub image_is : image s w ≡ low_bytes (bytes_for (total (widths s))) (join (widths s) (numbers_of s w))
  image_is =
      ap₂ (λ b n. low_bytes (bytes_for b) n)
      (bits_total (fields s w) ∙ ap total widths_are)
      (string_join (fields s w) ∙ ap₂ join widths_are numbers_are)

-- ---- numbers there and back

within_modes : (rs : List Row) (ms ws ns : List ℕ) → length ms ≡ length rs → ((i : ℕ) → i < length rs → get_or ms i 0 < 2 ^ mode_bits (component_entry (get_or rs i []))) → Within ws ns → Within (map (λ r. mode_bits (component_entry r)) rs ++ ws) (ms ++ ns)
within_modes [] [] ws ns e f h = h
within_modes [] (m ∷ ms) ws ns e f h = absurd (omega arith)
within_modes (r ∷ rs) [] ws ns e f h = absurd (omega arith)
within_modes (r ∷ rs) (m ∷ ms) ws ns e f h = (f 0 (omega arith), within_modes rs ms ws ns (omega arith) (λ i l. f (suc i) (omega arith)) h)

-- each value can stand in its field
abbrev pub AllStand : List Row → List ℤ → Type 0
AllStand rs vs = (i : ℕ) → i < length rs → Standing (element_entry (get_or rs i [])) (get_or vs i (pos 0))

within_values : (rs : List Row) (vs : List ℤ) → length vs ≡ length rs → AllStand rs vs → Within (map (λ r. value_bits (element_entry r)) rs) (zip2 (λ r v. value_number (element_entry r) v) rs vs)
within_values [] vs e f = tt
within_values (r ∷ rs) [] e f = absurd (omega arith)
within_values (r ∷ rs) (v ∷ vs) e f = ((f 0 (omega arith)).room, within_values rs vs (omega arith) (λ i l. f (suc i) (omega arith)))

values_back : (rs : List Row) (vs : List ℤ) → length vs ≡ length rs → AllStand rs vs → zip2 (λ r n. value_from (element_entry r) n) rs (zip2 (λ r v. value_number (element_entry r) v) rs vs) ≡ vs
values_back [] [] e f = refl
values_back [] (v ∷ vs) e f = absurd (omega arith)
values_back (r ∷ rs) [] e f = absurd (omega arith)
values_back (r ∷ rs) (v ∷ vs) e f = ap₂ (λ x xs. x ∷ xs) (f 0 (omega arith)).back (values_back rs vs (omega arith) (λ i l. f (suc i) (omega arith)))

numbers_back : (rs : List Row) (ns : List ℕ) → Within (map (λ r. value_bits (element_entry r)) rs) ns → zip2 (λ r v. value_number (element_entry r) v) rs (zip2 (λ r n. value_from (element_entry r) n) rs ns) ≡ ns
numbers_back [] [] h = refl
numbers_back [] (n ∷ ns) h = elim h [ ]
numbers_back (r ∷ rs) [] h = elim h [ ]
numbers_back (r ∷ rs) (n ∷ ns) h = ap₂ (λ x xs. x ∷ xs) (number_back (element_entry r) n h.0) (numbers_back rs ns h.1)

split_back : (cs es : List Row) (ns : List ℕ) → Within (map (λ r. mode_bits (component_entry r)) cs ++ map (λ r. value_bits (element_entry r)) es) ns → take (length cs) ns ++ zip2 (λ r v. value_number (element_entry r) v) es (zip2 (λ r n. value_from (element_entry r) n) es (drop (length cs) ns)) ≡ ns
split_back [] es ns h = numbers_back es ns h
split_back (c ∷ cs) es [] h = elim h [ ]
split_back (c ∷ cs) es (n ∷ ns) h = ap (λ l. n ∷ l) (split_back cs es ns h.1)

-- numbers with room in their fields are those of the state that they stand for
pub numbers_of_state : (s : Sheet) (ns : List ℕ) → Within (widths s) ns → numbers_of s (state_from s ns) ≡ ns
numbers_of_state s ns h = split_back (rows s components) (rows s elements) ns h

pub length_widths : (s : Sheet) → length (widths s) ≡ length (rows s components) + length (rows s elements)
length_widths s =
    length-append (map (λ r. mode_bits (component_entry r)) (rows s components)) (map (λ r. value_bits (element_entry r)) (rows s elements))
    ∙ ap₂ (λ x y. x + y) (length-map (rows s components) (λ r. mode_bits (component_entry r))) (length-map (rows s elements) (λ r. value_bits (element_entry r)))

length_zip : (es : List Row) (ns : List ℕ) → length ns ≡ length es → length (zip2 (λ r n. value_from (element_entry r) n) es ns) ≡ length es
length_zip [] ns e = refl
length_zip (r ∷ es) [] e = absurd (omega arith)
length_zip (r ∷ es) (n ∷ ns) e = ap suc (length_zip es ns (omega arith))

-- the state that numbers stand for has a place for each component and element
pub placed_from : (s : Sheet) (ns : List ℕ) → length ns ≡ length (rows s components) + length (rows s elements) → Placed s (state_from s ns)
placed_from s ns e =
    record {
      modes_long = length-take-le (length (rows s components)) ns (omega arith);
      held_long = length_zip (rows s elements) (drop (length (rows s components)) ns) (length-drop (length (rows s components)) ns ∙ omega arith);
    }

-- the image of the state that a bit string stands for
pub image_of_string : (s : Sheet) (n : ℕ) → n < 2 ^ total (widths s) → image s (state_in s n) ≡ low_bytes (bytes_for (total (widths s))) n
image_of_string s n lt =
    let ns = numbers_in (widths s) n in
    image_is s (state_from s ns) (placed_from s ns (length_numbers (widths s) n ∙ length_widths s))
    ∙ ap (low_bytes (bytes_for (total (widths s)))) (ap (join (widths s)) (numbers_of_state s ns (within_numbers (widths s) n)) ∙ join_numbers (widths s) n lt)

-- ---- states that can stand in the fields

pub record Stands (s : Sheet) (w : State) : Type 0 where
  pub placed : Placed s w
  pub modes_stand : (i : ℕ) → i < length (rows s components) → get_or w.modes i 0 < 2 ^ mode_bits (component_entry (get_or (rows s components) i []))
  pub values_stand : AllStand (rows s elements) w.held

module _ (s : Sheet) (w : State) (t : Stands s w) where
  within_of : Within (widths s) (numbers_of s w)
  within_of =
      within_modes (rows s components) w.modes (map (λ r. value_bits (element_entry r)) (rows s elements)) (zip2 (λ r v. value_number (element_entry r) v) (rows s elements) w.held) t.placed.modes_long t.modes_stand
      (within_values (rows s elements) w.held t.placed.held_long t.values_stand)

  state_back : state_from s (numbers_of s w) ≡ w
  state_back =
      let vs = zip2 (λ r v. value_number (element_entry r) v) (rows s elements) w.held in
      let n = length (rows s components) in
      ap₂ {C = State} (λ x y. record { modes = x; held = zip2 (λ r n. value_from (element_entry r) n) (rows s elements) y }) (take_at w.modes vs n t.placed.modes_long) (drop_at w.modes vs n t.placed.modes_long)
      ∙ ap {B = State} (λ x. record { modes = w.modes; held = x }) (values_back (rows s elements) w.held t.placed.held_long t.values_stand)

  -- it is read back from its image
  pub read_back : state_read s (image s w) ≡ w
  read_back =
      let ws = widths s in
      let n = join ws (numbers_of s w) in
      ap (λ bs. state_read s bs) (image_is s w t.placed)
      ∙ ap (state_in s) (number_of_string (total ws) n (join_lt ws (numbers_of s w) within_of))
      ∙ ap (state_from s) (numbers_join ws (numbers_of s w) within_of)
      ∙ state_back
