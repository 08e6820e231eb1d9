-- Each row of the components of an accepted sheet holds one.
use Rattle.std.proofs.Common.{◌≡◌, ℕ, ◌<◌, Bool, true, false, List, [], length, get_or, refl, ap, Err, Ok, Some}
use Rattle.std.proofs.lemmas.Option.{slice_get-get_or}
use Rattle.sheet.specs.Entry.{Entry, malformed}
use Rattle.sheet.specs.declared.rows.Component.{Component}
use Rattle.sheet.specs.Accept.{accepted}
use Rattle.sheet.specs.Lookup.{held, read_by, there}
use Rattle.sheet.specs.Sections.{Row, Sheet, rows, components}
use Rattle.sheet.specs.Typed.{holds_if, component_entry}
use Rattle.sheet.proofs.Meaning.{keeps_the_rules}

-- a row that is there, by what its bytes say
pub there_at : {X : Type 0} (entry : Row → Entry X) (rs : List Row) (i : ℕ) → i < length rs → there entry rs i ≡ held (entry (get_or rs i []))
there_at entry rs i l = ap (read_by entry) (slice_get-get_or rs i [] l)

holds_unless_faulty : (b : Bool) (y : Component) → (holds_if b y ≡ Err malformed → ⊥) → (x : Component) × (holds_if b y ≡ Ok (Some x))
holds_unless_faulty true y f = (y, refl)
holds_unless_faulty false y f = absurd (f refl)

pub component_holds : (s : Sheet) (c : ℕ) → accepted s ≡ true → c < length (rows s components) → (x : Component) × (component_entry (get_or (rows s components) c []) ≡ Ok (Some x))
component_holds s c a l = holds_unless_faulty _ _ ((keeps_the_rules s a).components_right.not_faulty c l)
