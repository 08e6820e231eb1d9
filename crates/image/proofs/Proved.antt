-- The laws of images, for states of accepted sheets.
use Rattle.std.proofs.Common.{◌≡◌, ◌*◌, ◌≤◌, true, not, List, [], ◌∷◌, map, length, get_or, sym, ap, ◌∙◌, arith}
use Rattle.sheet.specs.Accept.{accepted}
use Rattle.sheet.specs.Lookup.{held, element_at, is}
use Rattle.sheet.specs.Rules.{is_port}
use Rattle.sheet.specs.Sections.{Row, Sheet, rows, components, elements}
use Rattle.sheet.specs.Typed.{component_entry, element_entry}
use Rattle.sheet.proofs.Shapes.{sized}
use Rattle.running.specs.States.{State, StateOf}
use Rattle.running.proofs.Components.{there_at, component_holds}
use Rattle.image.specs.Bits.{bytes_for}
use Rattle.image.specs.Fields.{mode_bits, value_bits}
use Rattle.image.specs.Laws.{ImagesReadBack, ImagesTellStates, LengthsBySheets}
use Rattle.image.specs.Reading.{widths, total, state_read}
use Rattle.image.proofs.Bytes.{length_bytes}
use Rattle.image.proofs.Entries.{mode_has_room, standing, mode_bits_few, value_bits_few}
use Rattle.image.proofs.Images.{Placed, Stands, image_is, numbers_of, read_back}
use Rattle.image.proofs.Layouts.{join, total_append}

placed_of : (s : Sheet) (w : State) → StateOf s w → Placed s w
placed_of s w o = record { modes_long = o.modes_long; held_long = o.held_long }

-- a state of an accepted sheet can stand in the fields
pub stands_of : (s : Sheet) (w : State) → accepted s ≡ true → StateOf s w → Stands s w
stands_of s w a o =
    let cs = rows s components in
    let es = rows s elements in
    record {
      placed = placed_of s w o;
      modes_stand = λ c l.
          let h = component_holds s c a l in
          mode_has_room (get_or cs c []) h.0 (get_or w.modes c 0) h.1 (o.modes_in c h.0 (there_at component_entry cs c l ∙ ap held h.1));
      values_stand = λ e l.
          let here : element_at s e ≡ held (element_entry (get_or es e [])) = there_at element_entry es e l in
          standing (get_or es e []) _ (λ x h. o.held_in e x (here ∙ h)) (λ h. o.nothing_else e (ap (λ q. is q (λ x. not (is_port x))) here ∙ h));
    }

pub images_read_back : ImagesReadBack
images_read_back s w a o = read_back s w (stands_of s w a o)

pub images_tell_states : ImagesTellStates
images_tell_states s v w a o p e = sym (images_read_back s v a o) ∙ ap (state_read s) e ∙ images_read_back s w a p

-- ---- the length

modes_total : (rs : List Row) → total (map (λ r. mode_bits (component_entry r)) rs) ≤ 4 * length rs
modes_total [] = omega arith
modes_total (r ∷ rs) = omega (arith, mode_bits_few r, modes_total rs)

values_total : (rs : List Row) → total (map (λ r. value_bits (element_entry r)) rs) ≤ 16 * length rs
values_total [] = omega arith
values_total (r ∷ rs) = omega (arith, value_bits_few r, values_total rs)

-- the bits of an accepted sheet's images
pub total_few : (s : Sheet) → accepted s ≡ true → total (widths s) ≤ 1088
total_few s a =
    let cs = rows s components in
    let es = rows s elements in
    omega (arith, total_append (map (λ r. mode_bits (component_entry r)) cs) (map (λ r. value_bits (element_entry r)) es), modes_total cs, values_total es, (sized s components a (omega arith)).within, (sized s elements a (omega arith)).within)

pub lengths_by_sheets : LengthsBySheets
lengths_by_sheets s a =
    record {
      length_is = λ w o. ap length (image_is s w (placed_of s w o)) ∙ length_bytes (bytes_for (total (widths s))) (join (widths s) (numbers_of s w));
      at_most = omega (arith, total_few s a);
    }
