-- The state that a bit string stands for.
use Rattle.std.specs.Prelude.{ℕ, ◌+◌, ◌/◌, ◌%◌, ◌^◌, ◌<◌, cond, List, [], ◌∷◌, ◌++◌, map, length, take, drop, ℤ, pos, ◌+ℤ◌, Err, None, Ok, Some}
use Rattle.std.specs.Simd.Lanes.{zip2}
use Rattle.std.specs.List.{AllZip}
use Rattle.sheet.specs.Entry.{Entry}
use Rattle.sheet.specs.declared.rows.Element.{Element}
use Rattle.sheet.specs.Rules.{is_port}
use Rattle.sheet.specs.Sections.{Sheet, rows, components, elements}
use Rattle.sheet.specs.Typed.{component_entry, element_entry}
use Rattle.running.specs.States.{State}
use Rattle.image.specs.Bits.{number_of}
use Rattle.image.specs.Fields.{mode_bits, value_bits}

-- the bits of each field of a sheet's images
abbrev pub widths : Sheet → List ℕ
widths s = map (λ r. mode_bits (component_entry r)) (rows s components) ++ map (λ r. value_bits (element_entry r)) (rows s elements)

-- the bits of fields with these widths
abbrev pub total : List ℕ → ℕ
total [] = 0
total (w ∷ ws) = w + total ws

-- where field i begins
abbrev pub place : List ℕ → ℕ → ℕ
place ws i = total (take i ws)

-- the numbers that stand in fields of these widths
abbrev pub numbers_in : (widths : List ℕ) → (string : ℕ) → List ℕ
numbers_in [] n = []
numbers_in (w ∷ ws) n = n % 2 ^ w ∷ numbers_in ws (n / 2 ^ w)

-- the value that a number stands for in an element's field
abbrev pub value_from : Entry Element → ℕ → ℤ
value_from (Ok None) n = pos 0
value_from (Err _) n = pos 0
value_from (Ok (Some x)) n = cond (is_port x) (pos 0) (x.lowest +ℤ pos n)

-- the state that the numbers in the fields stand for
abbrev pub state_from : Sheet → List ℕ → State
state_from s ns =
    record {
      modes = take (length (rows s components)) ns;
      held = zip2 (λ r n. value_from (element_entry r) n) (rows s elements) (drop (length (rows s components)) ns);
    }

-- the state that a bit string stands for
abbrev pub state_in : Sheet → (string : ℕ) → State
state_in s n = state_from s (numbers_in (widths s) n)

-- The state that an image stands for.
abbrev pub state_read : Sheet → List ℕ → State
state_read s bs = state_in s (number_of bs)

-- each number has room in its bits
abbrev pub Within : (widths numbers : List ℕ) → Type 0
Within ws ns = AllZip (λ w n. n < 2 ^ w) ws ns
