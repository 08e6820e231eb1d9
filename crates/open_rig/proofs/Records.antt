-- Records that change one by one.
use Rattle.std.proofs.Common.{◌≡◌, ℕ, zero, suc, true, not, ◌&&◌, List, map, get_or, set, replicate, ℤ, pos, sym, refl, ap, ◌∙◌, ⊎_elim, w32, SFits, to_z, of_z}
use Rattle.std.proofs.lemmas.Bool.{and_parts, false≢true, cases_eq}
use Rattle.std.proofs.lemmas.Int.{to_z-of_z}
use Rattle.std.proofs.lemmas.List.{map-set, length-set, get_or-set_other}
use Rattle.sheet.specs.Lookup.{element_at}
use Rattle.sheet.specs.Rules.{is_port}
use Rattle.sheet.specs.Sections.{Sheet}
use Rattle.sheet.proofs.Lookups.{is_cases, is_from}
use Rattle.running.specs.States.{State, in_range, is_held, with_mode, with_value}
use Rattle.moves.specs.Places.{Placed, can_hold}
use Rattle.open_rig.specs.declared.record.ComponentRecord.{ComponentRecord}
use Rattle.open_rig.specs.declared.record.ElementRecord.{ElementRecord}
use Rattle.open_rig.specs.Records.{modes_of, values_of, state_of_records}

-- a table of equal records has the same field everywhere
pub field_everywhere : {X Y : Type 0} (f : X → Y) (x : X) (n i : ℕ) → get_or (map f (replicate n x)) i (f x) ≡ f x
field_everywhere f x zero i = refl
field_everywhere f x (suc n) zero = refl
field_everywhere f x (suc n) (suc i) = field_everywhere f x n i

module _ (cs : List ComponentRecord) (es : List ElementRecord) (i : ℕ) where
  pub mode_set : (m : ℕ) → state_of_records (set cs i (record { mode = m })) es ≡ with_mode (state_of_records cs es) i m
  mode_set m = let modes = map-set (λ (r : ComponentRecord). r.mode) cs i (record { mode = m }) in (λ j. record { modes = modes j; held = values_of es })

  pub value_set : (v : ℤ) → SFits w32 v → state_of_records cs (set es i (record { value = to_z w32 (of_z w32 v) })) ≡ with_value (state_of_records cs es) i v
  value_set v fits =
      let values = map-set (λ (r : ElementRecord). r.value) es i (record { value = to_z w32 (of_z w32 v) }) ∙ ap (set (values_of es) i) (to_z-of_z w32 v fits) in
      (λ j. record { modes = modes_of cs; held = values j })

module _ (s : Sheet) (w : State) (p : Placed s w) (i : ℕ) where
  -- a mode that is set leaves the places
  pub placed_mode : (m : ℕ) → Placed s (with_mode w i m)
  placed_mode m = record { modes_long = length-set w.modes i m ∙ p.modes_long; held_long = p.held_long; nothing_else = p.nothing_else }

  -- so does a value that its element can hold
  pub placed_value : (v : ℤ) → can_hold s i v ≡ true → Placed s (with_value w i v)
  placed_value v h =
      let q = is_cases (element_at s i) (λ x. not (is_port x) && in_range x v) h in
      let held : is_held s i ≡ true = is_from (element_at s i) (λ x. not (is_port x)) q.0 q.1 (and_parts (not (is_port q.0)) (in_range q.0 v) q.2).0 in
      record {
        modes_long = p.modes_long;
        held_long = length-set w.held i v ∙ p.held_long;
        nothing_else = λ e n.
            ⊎_elim
            (λ (same : e ≡ i). absurd (false≢true (sym n ∙ ap (is_held s) same ∙ held)))
            (λ (other : e ≡ i → ⊥). get_or-set_other w.held i e v (pos 0) other ∙ p.nothing_else e n)
            (cases_eq e i);
      }
