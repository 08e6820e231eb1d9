-- A table made row by row, read by what a row holds.
use Rattle.std.proofs.Common.{◌≡◌, ℕ, ◌<◌, ◌≤◌, Bool, true, false, cond, List, [], map, length, get_or, pos, Some, None, Option, unwrap_or, sym, refl, ap, ◌∙◌, ⊎_elim, arith, Err, Ok}
use Rattle.std.proofs.lemmas.List.{get_or-map, get_or_past, length-map}
use Rattle.std.proofs.lemmas.Option.{slice_get-get_or}
use Rattle.std.proofs.lemmas.Bool.{cases_lt}
use Rattle.sheet.specs.Entry.{Entry, malformed}
use Rattle.sheet.specs.declared.rows.Element.{Element}
use Rattle.sheet.specs.Lookup.{held, read_by, there, element_at}
use Rattle.sheet.specs.Rules.{is_port}
use Rattle.sheet.specs.Sections.{Row, Sheet, rows, elements}
use Rattle.sheet.specs.Typed.{element_entry}
use Rattle.sheet.proofs.Firsts.{no_pass}
use Rattle.sheet.proofs.Meaning.{there_inside, held_holds}
use Rattle.running.specs.States.{held_of, start_state, start_value}
use Rattle.view.specs.Checks.{rest_held}

module _ {X Y : Type 0} (entry : Row → Entry X) (f : Entry X → Y) (rs : List Row) (i : ℕ) (d : Y) where
  -- at a row that holds x
  pub made_at : (x : X) → there entry rs i ≡ Some x → get_or (map (λ r. f (entry r)) rs) i d ≡ f (Ok (Some x))
  made_at x e =
      let p = there_inside entry rs i x e in
      get_or-map (λ r. f (entry r)) rs i [] d p.0 ∙ ap f (held_holds (entry (get_or rs i [])) x p.1)

  nothing_at : (e : Entry X) → f (Ok None) ≡ d → f (Err malformed) ≡ d → held e ≡ None → f e ≡ d
  nothing_at (Ok None) b g h = b
  nothing_at (Err _) b g h = g
  nothing_at (Ok (Some x)) b g h = no_pass x h

  -- where nothing is
  pub made_nowhere : f (Ok None) ≡ d → f (Err malformed) ≡ d → there entry rs i ≡ None → get_or (map (λ r. f (entry r)) rs) i d ≡ d
  made_nowhere b g e =
      ⊎_elim
      (λ (l : i < length rs). get_or-map (λ r. f (entry r)) rs i [] d l ∙ nothing_at (entry (get_or rs i [])) b g (sym (ap (read_by entry) (slice_get-get_or rs i [] l)) ∙ e))
      (λ (l : length rs ≤ i). get_or_past (map (λ r. f (entry r)) rs) i d (omega (arith, length-map rs (λ r. f (entry r)))))
      (cases_lt i (length rs))

-- the value of an element at the start is its rest value where it is held, and else 0
pub start_value_is : (s : Sheet) (e : ℕ) → unwrap_or (rest_held (element_at s e)) (pos 0) ≡ held_of (start_state s) e
start_value_is s e = by_element (element_at s e) refl
  where
    by_port : (x : Element) (b : Bool) → unwrap_or (cond b None (Some x.rest)) (pos 0) ≡ cond b (pos 0) x.rest
    by_port x true = refl
    by_port x false = refl

    by_element : (o : Option Element) → element_at s e ≡ o → unwrap_or (rest_held o) (pos 0) ≡ held_of (start_state s) e
    by_element None h = sym (made_nowhere element_entry start_value (rows s elements) e (pos 0) refl refl h)
    by_element (Some x) h = by_port x (is_port x) ∙ sym (made_at element_entry start_value (rows s elements) e (pos 0) x h)
