-- A made step of kept transitions leads a sheet and its cut to states of which the one shows the other.
use Rattle.std.proofs.Common.{◌≡◌, ℕ, suc, ◌+◌, Bool, true, false, cond, eqb, List, [], ◌∷◌, get_or, set, ℤ, pos, Some, None, Option, sym, refl, ap, ◌∙◌, subst, ⊎_elim}
use Rattle.std.proofs.lemmas.Bool.{false≢true, true≢false, and_parts, and_cases, or_cases, eqb-true, cases_Bool, cond-true, cond-false}
use Rattle.sheet.specs.declared.rows.Element.{Element}
use Rattle.sheet.specs.declared.rows.Setting.{Setting}
use Rattle.sheet.specs.Accept.{accepted}
use Rattle.sheet.specs.Lookup.{held, there, element_at, transition_at, is}
use Rattle.sheet.specs.Sections.{Row, Sheet, rows, settings}
use Rattle.sheet.specs.Typed.{setting_entry}
use Rattle.sheet.proofs.Lookups.{is_from}
use Rattle.running.specs.declared.kinds.Step.{Step}
use Rattle.running.specs.States.{State}
use Rattle.running.specs.Values.{bring, number_in, node_value}
use Rattle.running.specs.Steps.{parts, moved_by, moved, takes_part, set_value, set_by, settled, made_state}
use Rattle.cutting.specs.declared.kinds.Thing.TheVariants.{Element as KeptElement}
use Rattle.cutting.specs.Agreement.{IsKeptTransition, Every, KeptStep}
use Rattle.cutting.specs.CutSheet.{shown_mode, shown_value, shown, keeps_setting, cut_setting, cut_sheet}
use Rattle.cutting.specs.Kept.{Kept, Chosen, keeps_from, Closed}
use Rattle.cutting.specs.Numbered.{numbered_from, numbered}
use Rattle.cutting.proofs.CutRows.{passing, held_stays}
use Rattle.cutting.proofs.ElementsAgree.{node_value_shown}
use Rattle.cutting.proofs.KeptRows.{element_kept, kept_below}
use Rattle.cutting.proofs.NumberedLists.{get_d_numbered, numbered_set, numbered_set_same}
use Rattle.cutting.proofs.Passings.{either_same}
use Rattle.cutting.proofs.UsedNodes.{setting_rests_on_kept}

pub same_state : {ms ns : List ℕ} {vs us : List ℤ} → ms ≡ ns → vs ≡ us → ◌≡◌ {A = State} (record { modes = ms; held = vs }) (record { modes = ns; held = us })
same_state p q = rw (p, q)

either_way : {X Y : Type 0} (f : X → Y) (b : Bool) (x y : X) → f (cond b x y) ≡ cond b (f x) (f y)
either_way f true x y = refl
either_way f false x y = refl

-- what holds of each part holds of one that takes part
pub of_part : (P : ℕ → Type 0) (t : ℕ) (ts : List ℕ) → takes_part t ts ≡ true → Every P ts → P t
of_part P t [] h all = absurd (false≢true h)
of_part P t (u ∷ us) h all =
    ⊎_elim
    (λ (e : eqb u t ≡ true). subst P (eqb-true u t e) all.0)
    (λ (e : takes_part t us ≡ true). of_part P t us e all.1)
    (or_cases (eqb u t) (takes_part t us) h)

-- ---- what is written to an element that is not kept does not show

value_hidden : (k : Kept) (vs : List ℤ) (e : ℕ) (v : ℤ) → k (KeptElement e) ≡ false → numbered (shown_value k) (set vs e v) ≡ numbered (shown_value k) vs
value_hidden k vs e v h =
    let zero_there : get_or (numbered (shown_value k) vs) e (pos 0) ≡ pos 0 = get_d_numbered (shown_value k) (pos 0) (pos 0) (λ i. either_same (k (KeptElement i)) (pos 0)) vs e ∙ cond-false (k (KeptElement e)) (get_or vs e (pos 0)) (pos 0) h in
    numbered_set_same (shown_value k) vs e v (pos 0) (cond-false (k (KeptElement e)) v (pos 0) h ∙ sym zero_there)

module _ (k : Kept) (s : Sheet) (w : State) where
  set_value_hidden : (x : Setting) (o : Option Element) (vs : List ℤ) → k (KeptElement x.element) ≡ false → numbered (shown_value k) (set_value s w x o vs) ≡ numbered (shown_value k) vs
  set_value_hidden x None vs h = refl
  set_value_hidden x (Some e) vs h = value_hidden k vs x.element (bring e.lowest e.highest (number_in (node_value s w x.node))) h

  module _ (ts : List ℕ) where
    pub set_by_hidden : (x : Setting) (vs : List ℤ) → (takes_part x.transition ts ≡ true → k (KeptElement x.element) ≡ false) → numbered (shown_value k) (set_by s w ts (Some x) vs) ≡ numbered (shown_value k) vs
    set_by_hidden x vs h =
        ⊎_elim
        (λ (e : takes_part x.transition ts ≡ true). ap (numbered (shown_value k)) (cond-true (takes_part x.transition ts) (set_value s w x (element_at s x.element) vs) vs e) ∙ set_value_hidden x (element_at s x.element) vs (h e))
        (λ (e : takes_part x.transition ts ≡ false). ap (numbered (shown_value k)) (cond-false (takes_part x.transition ts) (set_value s w x (element_at s x.element) vs) vs e))
        (cases_Bool (takes_part x.transition ts))

-- ---- the settings of kept transitions

module _ (s : Sheet) (k : Kept) (chosen : Chosen) (w : State) (ts : List ℕ) where
  -- a setting of a part is of a kept transition, and what stays of the settings gives the same
  record SettingAgrees (x : Setting) : Type 0 where
    part_kept : takes_part x.transition ts ≡ true → is (transition_at s x.transition) (keeps_from k) ≡ true
    same : keeps_setting k s x ≡ true → node_value s w x.node ≡ node_value (cut_sheet k chosen s) (shown k w) x.node

  set_value_shown : (x : Setting) (o : Option Element) (vs : List ℤ) → k (KeptElement x.element) ≡ true → node_value s w x.node ≡ node_value (cut_sheet k chosen s) (shown k w) x.node → numbered (shown_value k) (set_value s w x o vs) ≡ set_value (cut_sheet k chosen s) (shown k w) x o (numbered (shown_value k) vs)
  set_value_shown x None vs h same = refl
  set_value_shown x (Some e) vs h same =
      let v = bring e.lowest e.highest (number_in (node_value s w x.node)) in
      numbered_set (shown_value k) vs x.element v
      ∙ ap (set (numbered (shown_value k) vs) x.element) (cond-true (k (KeptElement x.element)) v (pos 0) h ∙ ap (λ z. bring e.lowest e.highest (number_in z)) same)

  set_by_kept : (x : Setting) (vs : List ℤ) → SettingAgrees x → keeps_setting k s x ≡ true → numbered (shown_value k) (set_by s w ts (Some x) vs) ≡ set_by (cut_sheet k chosen s) (shown k w) ts (Some x) (numbered (shown_value k) vs)
  set_by_kept x vs agrees h =
      let kept = (and_parts (is (transition_at s x.transition) (keeps_from k)) (k (KeptElement x.element)) h).1 in
      either_way (numbered (shown_value k)) (takes_part x.transition ts) (set_value s w x (element_at s x.element) vs) vs
      ∙ ap (λ us. cond (takes_part x.transition ts) us (numbered (shown_value k) vs))
      (set_value_shown x (element_at s x.element) vs kept (agrees.same h)
      ∙ ap (λ o. set_value (cut_sheet k chosen s) (shown k w) x o (numbered (shown_value k) vs)) (sym (element_kept k chosen s x.element kept)))

  set_by_dropped : (x : Setting) (vs : List ℤ) → SettingAgrees x → keeps_setting k s x ≡ false → numbered (shown_value k) (set_by s w ts (Some x) vs) ≡ numbered (shown_value k) vs
  set_by_dropped x vs agrees h =
      set_by_hidden k s w ts x vs (λ part.
      ⊎_elim
      (λ (n : is (transition_at s x.transition) (keeps_from k) ≡ false). absurd (true≢false (sym (agrees.part_kept part) ∙ n)))
      (λ (n : k (KeptElement x.element) ≡ false). n)
      (and_cases (is (transition_at s x.transition) (keeps_from k)) (k (KeptElement x.element)) h))

  set_by_shown : (o : Option Setting) (vs : List ℤ) → ((x : Setting) → o ≡ Some x → SettingAgrees x) → numbered (shown_value k) (set_by s w ts o vs) ≡ set_by (cut_sheet k chosen s) (shown k w) ts (passing (keeps_setting k s) o) (numbered (shown_value k) vs)
  set_by_shown None vs agree = refl
  set_by_shown (Some x) vs agree =
      let after : Option Setting → List ℤ = λ o. set_by (cut_sheet k chosen s) (shown k w) ts o (numbered (shown_value k) vs) in
      ⊎_elim
      (λ (h : keeps_setting k s x ≡ true). set_by_kept x vs (agree x refl) h ∙ ap after (sym (cond-true (keeps_setting k s x) (Some x) None h)))
      (λ (h : keeps_setting k s x ≡ false). set_by_dropped x vs (agree x refl) h ∙ ap after (sym (cond-false (keeps_setting k s x) (Some x) None h)))
      (cases_Bool (keeps_setting k s x))

  settled_shown : (i : ℕ) (rs : List Row) (vs : List ℤ) → ((j : ℕ) (x : Setting) → there setting_entry rs j ≡ Some x → SettingAgrees x) → numbered (shown_value k) (settled s w ts rs vs) ≡ settled (cut_sheet k chosen s) (shown k w) ts (numbered_from i (cut_setting k s) rs) (numbered (shown_value k) vs)
  settled_shown i [] vs agree = refl
  settled_shown i (r ∷ rs) vs agree =
      settled_shown (i + 1) rs (set_by s w ts (held (setting_entry r)) vs) (λ j. agree (suc j))
      ∙ ap (settled (cut_sheet k chosen s) (shown k w) ts (numbered_from (i + 1) (cut_setting k s) rs))
      (set_by_shown (held (setting_entry r)) vs (agree 0)
      ∙ ap (λ o. set_by (cut_sheet k chosen s) (shown k w) ts o (numbered (shown_value k) vs)) (sym (held_stays settings setting_entry refl (keeps_setting k s) r)))

-- ---- the modes

module _ (s : Sheet) (k : Kept) (chosen : Chosen) where
  moved_shown : (us ms : List ℕ) → Every (IsKeptTransition (cut_sheet k chosen s)) us → numbered (shown_mode k) (moved s us ms) ≡ moved (cut_sheet k chosen s) us (numbered (shown_mode k) ms)
  moved_shown [] ms kept = refl
  moved_shown (t ∷ us) ms kept =
      let l = kept_below k chosen s t kept.0 in
      let x = l.below in
      moved_shown us (moved_by (transition_at s t) ms) kept.1
      ∙ ap (moved (cut_sheet k chosen s) us)
      (ap (λ o. numbered (shown_mode k) (moved_by o ms)) l.stands
      ∙ numbered_set (shown_mode k) ms x.component x.to
      ∙ sym (ap (λ o. moved_by o (numbered (shown_mode k) ms)) l.above))

-- ---- both

module _ (s : Sheet) (a : accepted s ≡ true) (k : Kept) (chosen : Chosen) (closed : Closed s chosen k) (w : State) where
  setting_agrees : (ts : List ℕ) → Every (IsKeptTransition (cut_sheet k chosen s)) ts → (i : ℕ) (x : Setting) → there setting_entry (rows s settings) i ≡ Some x → SettingAgrees s k chosen w ts x
  setting_agrees ts kept i x e =
      record {
        part_kept = λ part. let l = kept_below k chosen s x.transition (of_part (IsKeptTransition (cut_sheet k chosen s)) x.transition ts part kept) in is_from (transition_at s x.transition) (keeps_from k) l.below l.stands l.from_kept;
        same = λ h. node_value_shown s a k chosen closed w x.node (setting_rests_on_kept k chosen s a closed i x e h);
      }

  pub made_kept : (x : Step) → KeptStep (cut_sheet k chosen s) x → shown k (made_state s w x) ≡ made_state (cut_sheet k chosen s) (shown k w) x
  made_kept x kept =
      same_state
      (moved_shown s k chosen (parts x) w.modes kept)
      (settled_shown s k chosen w (parts x) 0 (rows s settings) w.held (setting_agrees (parts x) kept))
