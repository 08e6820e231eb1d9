-- A state of a sheet: a mode for each component and a value for each held element.
use Rattle.std.specs.Prelude.{◌≡◌, ℕ, ◌≤◌, Bool, true, false, cond, not, ◌&&◌, List, map, length, ℤ, pos, Some, int_le, slice_index, slice_index_or, slice_set, Err, None, Ok}
use Rattle.sheet.specs.Entry.{Entry}
use Rattle.sheet.specs.declared.rows.Component.{Component}
use Rattle.sheet.specs.declared.rows.Element.{Element}
use Rattle.sheet.specs.Lookup.{component_at, element_at, is}
use Rattle.sheet.specs.Rules.{is_port}
use Rattle.sheet.specs.Sections.{Sheet, rows, components, elements}
use Rattle.sheet.specs.Typed.{component_entry, element_entry}

-- For each component its mode, and for each element its value if it is held, else 0.
pub record State : Type 0 where
  pub modes : List ℕ
  pub held : List ℤ

-- the mode of a component; 0 where there is none
abbrev pub mode_of : State → ℕ → ℕ
mode_of w c = slice_index w.modes c

-- the value of a held element; 0 for anything else
abbrev pub held_of : State → ℕ → ℤ
held_of w e = slice_index_or w.held e (pos 0)

-- the same state but for the mode of one component
abbrev pub with_mode : State → ℕ → ℕ → State
with_mode w c m = record { modes = slice_set w.modes c m; held = w.held }

-- the same state but for the value of one element
abbrev pub with_value : State → ℕ → ℤ → State
with_value w e v = record { modes = w.modes; held = slice_set w.held e v }

-- the value lies in the element's range
abbrev pub in_range : Element → ℤ → Bool
in_range x v = int_le x.lowest v && int_le v x.highest

-- element e is there and held
abbrev pub is_held : Sheet → ℕ → Bool
is_held s e = is (element_at s e) (λ x. not (is_port x))

-- A state of the sheet: each mode is one of its component, and each value lies in its element's range.
pub record StateOf (s : Sheet) (w : State) : Type 0 where
  pub modes_long : length w.modes ≡ length (rows s components)
  pub held_long : length w.held ≡ length (rows s elements)
  pub modes_in : (c : ℕ) (x : Component) → component_at s c ≡ Some x → mode_of w c ≤ x.modes
  pub held_in : (e : ℕ) (x : Element) → element_at s e ≡ Some x → is_port x ≡ false → in_range x (held_of w e) ≡ true
  pub nothing_else : (e : ℕ) → is_held s e ≡ false → held_of w e ≡ pos 0

-- the start mode of a component's row
abbrev pub start_mode : Entry Component → ℕ
start_mode (Ok None) = 0
start_mode (Err _) = 0
start_mode (Ok (Some x)) = x.start

-- the value of an element's row at the start
abbrev pub start_value : Entry Element → ℤ
start_value (Ok None) = pos 0
start_value (Err _) = pos 0
start_value (Ok (Some x)) = cond (is_port x) (pos 0) x.rest

-- The start state: the start modes, and the rest values of held elements.
abbrev pub start_state : Sheet → State
start_state s =
    record {
      modes = map (λ r. start_mode (component_entry r)) (rows s components);
      held = map (λ r. start_value (element_entry r)) (rows s elements);
    }
