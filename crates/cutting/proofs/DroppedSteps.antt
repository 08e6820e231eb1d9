-- A possible step with a transition that is not kept has no kept transition, and nothing of it shows.
use Rattle.std.proofs.Common.{◌≡◌, ℕ, suc, true, false, List, [], ◌∷◌, get_or, ℤ, Some, None, Option, sym, refl, ap, ◌∙◌}
use Rattle.std.proofs.lemmas.Bool.{true≢false, or_right, cond-false}
use Rattle.sheet.specs.declared.rows.Setting.{Setting}
use Rattle.sheet.specs.declared.rows.Transition.{Transition}
use Rattle.sheet.specs.Lookup.{held, there, transition_at}
use Rattle.sheet.specs.Sections.{Row, Sheet, rows, settings}
use Rattle.sheet.specs.Typed.{setting_entry}
use Rattle.running.specs.declared.kinds.Step.{Step}
use Rattle.running.specs.States.{State, mode_of}
use Rattle.running.specs.Steps.{parts, moved_by, moved, takes_part, set_by, settled, made_state, Ready, Carried, Possible, alone, pair}
use Rattle.running.proofs.Finds.{not_passed}
use Rattle.cutting.specs.declared.kinds.Thing.TheVariants.{Element as KeptElement, Event as KeptEvent, Mode as KeptMode}
use Rattle.cutting.specs.Agreement.{IsKeptTransition, Every, KeptStep}
use Rattle.cutting.specs.CutSheet.{shown_mode, shown_value, shown, cut_sheet}
use Rattle.cutting.specs.Kept.{Kept, Chosen, keeps_from, Closed}
use Rattle.cutting.specs.Numbered.{numbered}
use Rattle.cutting.proofs.KeptRows.{transition_stays, event_of_kept}
use Rattle.cutting.proofs.KeptSteps.{same_state, of_part, set_by_hidden}
use Rattle.cutting.proofs.NumberedLists.{numbered_set_same}
use Rattle.cutting.proofs.Passings.{found_some}
use Rattle.cutting.proofs.Shown.{mode_of_shown}

module _ (s : Sheet) (chosen : Chosen) (k : Kept) (closed : Closed s chosen k) (w : State) where
  -- transition t is there and its component is in its from mode, which is not kept
  record Dropped (t : ℕ) : Type 0 where
    below : Transition
    stands : transition_at s t ≡ Some below
    in_mode : mode_of w below.component ≡ below.from
    from_dropped : keeps_from k below ≡ false

  -- ---- a possible step is kept whole or dropped whole

  still_there : (t : ℕ) (x : Transition) → transition_at s t ≡ Some x → keeps_from k x ≡ true → IsKeptTransition (cut_sheet k chosen s) t
  still_there t x e h = found_some (transition_at (cut_sheet k chosen s) t) _ (transition_stays k chosen s t x e h)

  dropped : (t : ℕ) (x : Transition) → transition_at s t ≡ Some x → Ready s w x → (keeps_from k x ≡ true → ⊥) → Dropped t
  dropped t x e r n = record { below = x; stands = e; in_mode = r.in_mode; from_dropped = not_passed (keeps_from k x) n }

  -- a connection in force has both events kept or neither
  carried_in : (o i : ℕ) → Carried s w o i → k (KeptEvent o) ≡ true → k (KeptEvent i) ≡ true
  carried_in o i c h = sym (ap (λ v. k (KeptEvent v)) c.to_in) ∙ closed.connection_in c.row c.connection c.stands (ap (λ v. k (KeptEvent v)) c.from_out ∙ h)

  carried_out : (o i : ℕ) → Carried s w o i → k (KeptEvent i) ≡ true → k (KeptEvent o) ≡ true
  carried_out o i c h = sym (ap (λ v. k (KeptEvent v)) c.from_out) ∙ closed.connection_out c.row c.connection c.stands (ap (λ v. k (KeptEvent v)) c.to_in ∙ h)

  all_dropped : {x : Step} → Possible s w x → (KeptStep (cut_sheet k chosen s) x → ⊥) → Every Dropped (parts x)
  all_dropped (alone {t = t} {x = x} e n r) not-kept = (dropped t x e r (λ h. not-kept (still_there t x e h, tt)), tt)
  all_dropped (pair {t = t} {h = u} {o = o} {i = i} {x = x} {y = y} e f v z go come apart r q c) not-kept =
      let both : keeps_from k x ≡ true → keeps_from k y ≡ true → ⊥ = λ h l. not-kept (still_there t x e h, (still_there u y f l, tt)) in
      let on : keeps_from k x ≡ true → keeps_from k y ≡ true = λ h. closed.event_from u i y f z (carried_in o i c (event_of_kept k chosen s closed t o x e h v)) in
      let back : keeps_from k y ≡ true → keeps_from k x ≡ true = λ h. closed.event_from t o x e v (carried_out o i c (event_of_kept k chosen s closed u i y f h z)) in
      (dropped t x e r (λ h. both h (on h)), (dropped u y f q (λ h. both (back h) h), tt))

  -- ---- the modes

  -- a dropped transition leads to a mode that is not kept
  to_dropped : (t : ℕ) (d : Dropped t) → k (KeptMode d.below.component d.below.to) ≡ false
  to_dropped t d =
      not_passed (k (KeptMode d.below.component d.below.to)) (λ h.
      true≢false (sym (closed.touched_from t d.below d.stands (or_right (keeps_from k d.below) (k (KeptMode d.below.component d.below.to)) h)) ∙ d.from_dropped))

  shown_as_0 : (t : ℕ) (d : Dropped t) → mode_of (shown k w) d.below.component ≡ 0
  shown_as_0 t d =
      let c = d.below.component in
      mode_of_shown k w c ∙ ap (shown_mode k c) d.in_mode ∙ cond-false (k (KeptMode c d.below.from)) d.below.from 0 d.from_dropped

  moved_hidden : (ts ms : List ℕ) → numbered (shown_mode k) ms ≡ numbered (shown_mode k) w.modes → Every Dropped ts → numbered (shown_mode k) (moved s ts ms) ≡ numbered (shown_mode k) w.modes
  moved_hidden [] ms e all = e
  moved_hidden (t ∷ ts) ms e all =
      let d = all.0 in
      let c = d.below.component in
      let m = d.below.to in
      let as_0 : get_or (numbered (shown_mode k) ms) c 0 ≡ 0 = ap (λ ns. get_or ns c 0) e ∙ shown_as_0 t d in
      moved_hidden ts (moved_by (transition_at s t) ms)
      (ap (λ o. numbered (shown_mode k) (moved_by o ms)) d.stands
      ∙ numbered_set_same (shown_mode k) ms c m 0 (cond-false (k (KeptMode c m)) m 0 (to_dropped t d) ∙ sym as_0)
      ∙ e)
      all.1

  -- ---- the held values

  module _ (ts : List ℕ) (all : Every Dropped ts) where
    -- a dropped transition sets no kept element
    sets_dropped : (i : ℕ) (x : Setting) → there setting_entry (rows s settings) i ≡ Some x → takes_part x.transition ts ≡ true → k (KeptElement x.element) ≡ false
    sets_dropped i x e part =
        let d = of_part Dropped x.transition ts part all in
        not_passed (k (KeptElement x.element)) (λ h. true≢false (sym (closed.setting_from i x d.below e d.stands h) ∙ d.from_dropped))

    row_hidden : (o : Option Setting) (vs : List ℤ) → ((x : Setting) → o ≡ Some x → takes_part x.transition ts ≡ true → k (KeptElement x.element) ≡ false) → numbered (shown_value k) (set_by s w ts o vs) ≡ numbered (shown_value k) vs
    row_hidden None vs h = refl
    row_hidden (Some x) vs h = set_by_hidden k s w ts x vs (h x refl)

    settled_hidden : (rs : List Row) (vs : List ℤ) → ((i : ℕ) (x : Setting) → there setting_entry rs i ≡ Some x → takes_part x.transition ts ≡ true → k (KeptElement x.element) ≡ false) → numbered (shown_value k) (settled s w ts rs vs) ≡ numbered (shown_value k) vs
    settled_hidden [] vs h = refl
    settled_hidden (r ∷ rs) vs h = settled_hidden rs (set_by s w ts (held (setting_entry r)) vs) (λ i. h (suc i)) ∙ row_hidden (held (setting_entry r)) vs (h 0)

  pub made_dropped : {x : Step} → Possible s w x → (KeptStep (cut_sheet k chosen s) x → ⊥) → shown k (made_state s w x) ≡ shown k w
  made_dropped {x} p not-kept =
      let all = all_dropped p not-kept in
      same_state
      (moved_hidden (parts x) w.modes refl all)
      (settled_hidden (parts x) all (rows s settings) w.held (sets_dropped (parts x) all))
