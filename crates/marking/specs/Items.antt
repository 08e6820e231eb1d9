-- The items that can be marked, and the place of each in a table of marks.
use Rattle.std.specs.Prelude.{◌≡◌, ℕ, ◌+◌, ◌*◌, Bool, true, false, cond, ◌&&◌, List, is_some, Some, None, Option, nat_le, nat_lt, slice_index_or, slice_set}
use Rattle.sheet.specs.Lookup.{is}
use Rattle.cutting.specs.declared.kinds.Thing.{Thing}
use Rattle.cutting.specs.declared.kinds.Thing.TheVariants.{Element, Event, Mode}
use Rattle.marking.specs.declared.kinds.Item.{Item}
use Rattle.marking.specs.declared.kinds.Item.TheVariants.{Thing as ThatThing, Node as ThatNode}

-- the number of places
abbrev pub places : ℕ
places = 512

-- the place of a thing: 64 elements, 64 events, then 16 modes for each of 16 components; mode 0 is no mode
abbrev pub thing_place : Thing → Option ℕ
thing_place (Element e) = cond (nat_lt e 64) (Some e) None
thing_place (Event v) = cond (nat_lt v 64) (Some (64 + v)) None
thing_place (Mode c m) = cond (nat_lt c 16 && (nat_le 1 m && nat_lt m 16)) (Some (128 + (16 * c + m))) None

-- the place of an item, if it has one: after the things, 128 nodes
abbrev pub place : Item → Option ℕ
place (ThatThing x) = thing_place x
place (ThatNode n) = cond (nat_lt n 128) (Some (384 + n)) None

-- the item is marked in the table
abbrev pub marked : List Bool → Item → Bool
marked table x = is (place x) (λ p. slice_index_or table p false)

-- the table with a mark at a place, if there is one
abbrev pub with_mark_at : List Bool → Option ℕ → List Bool
with_mark_at table None = table
with_mark_at table (Some p) = slice_set table p true

-- the table with one more mark; an item that has no place is not marked
abbrev pub with_mark : List Bool → Item → List Bool
with_mark table x = with_mark_at table (place x)

-- the item has a place
abbrev pub Placed : Item → Type 0
Placed x = is_some (place x) ≡ true

-- Each marked item is in j.
abbrev pub MarksWithin : List Bool → (Item → Bool) → Type 0
MarksWithin table j = (x : Item) → marked table x ≡ true → j x ≡ true
