-- A cut sheet has the shapes of the sections.
use Rattle.std.proofs.Common.{◌≡◌, ℕ, zero, suc, ◌+◌, ◌<◌, Bool, true, cond, ◌&&◌, eqb, ltb, leb, List, [], ◌∷◌, length, get_or, refl, ap, ◌∙◌, arith}
use Rattle.std.proofs.lemmas.Bool.{and_parts, and_from, cond_both}
use Rattle.sheet.specs.Entry.{Entry}
use Rattle.sheet.specs.Lookup.{held, is}
use Rattle.sheet.specs.Sections.{Row, Sheet, rows, Shape, shape, shapes, bytes, wide, fits_shape, shaped, width_of, components, elements, events, nodes, flows, connections, transitions, settings, questions}
use Rattle.sheet.specs.Typed.{at, element_entry, event_entry, node_entry, flow_entry, connection_entry, transition_entry, setting_entry, question_entry}
use Rattle.sheet.proofs.Shapes.{shaped_at}
use Rattle.cutting.specs.declared.kinds.Thing.TheVariants.{Element as KeptElement, Event as KeptEvent, Mode as KeptMode}
use Rattle.cutting.specs.CutSheet.{blank_row, stays_if, shown_mode, keeps_events, with_shown_to, keeps_setting, is_used, cut_component, cut_transition, cut_sheet}
use Rattle.cutting.specs.Kept.{Kept, Chosen, keeps_from}
use Rattle.cutting.specs.Numbered.{numbered_from, numbered}
use Rattle.cutting.proofs.NumberedLists.{length_numbered}

-- the row has w bytes
abbrev fits_width : ℕ → Row → Bool
fits_width w r = eqb (length r) w && bytes r

byte_below : (r : Row) (i : ℕ) → bytes r ≡ true → ltb (at r i) 256 ≡ true
byte_below [] i h = refl
byte_below (b ∷ r) zero h = (and_parts (ltb b 256) (bytes r) h).0
byte_below (b ∷ r) (suc i) h = byte_below r i (and_parts (ltb b 256) (bytes r) h).1

-- ---- one section

module _ (h : Shape) (f : ℕ → Row → Row) (fits : (i : ℕ) (r : Row) → fits_width h.width r ≡ true → fits_width h.width (f i r) ≡ true) where
  wide_from : (i : ℕ) (rs : List Row) → wide h.width rs ≡ true → wide h.width (numbered_from i f rs) ≡ true
  wide_from i [] e = refl
  wide_from i (r ∷ rs) e =
      let p = and_parts (fits_width h.width r) (wide h.width rs) e in
      and_from (fits_width h.width (f i r)) (wide h.width (numbered_from (i + 1) f rs)) (fits i r p.0) (wide_from (i + 1) rs p.1)

  numbered_fits : (rs : List Row) → fits_shape h rs ≡ true → fits_shape h (numbered f rs) ≡ true
  numbered_fits rs e =
      let p = and_parts (leb h.least (length rs)) (leb (length rs) h.most && wide h.width rs) e in
      let q = and_parts (leb (length rs) h.most) (wide h.width rs) p.1 in
      and_from (leb h.least (length (numbered f rs))) (leb (length (numbered f rs)) h.most && wide h.width (numbered f rs)) (ap (leb h.least) (length_numbered f rs) ∙ p.0)
      (and_from (leb (length (numbered f rs)) h.most) (wide h.width (numbered f rs)) (ap (λ n. leb n h.most) (length_numbered f rs) ∙ q.0) (wide_from 0 rs q.1))

-- ---- one row

-- a row or another, each of which fits
either_fits : (w : ℕ) (b : Bool) (r blank : Row) → fits_width w r ≡ true → fits_width w blank ≡ true → fits_width w (cond b r blank) ≡ true
either_fits w b r blank e f = cond_both b r blank (λ q. fits_width w q ≡ true) (λ _. e) (λ _. f)

module _ (k : Kept) where
  shown_byte : (r : Row) (c i : ℕ) → bytes r ≡ true → ltb (shown_mode k c (at r i)) 256 ≡ true
  shown_byte r c i b = cond_both (k (KeptMode c (at r i))) (at r i) 0 (λ m. ltb m 256 ≡ true) (λ _. byte_below r i b) (λ _. refl)

  component_fits : (c : ℕ) (r : Row) → fits_width 2 r ≡ true → fits_width 2 (cut_component k c r) ≡ true
  component_fits c r e =
      let b = (and_parts (eqb (length r) 2) (bytes r) e).1 in
      rw (byte_below r 0 b, shown_byte r c 1 b)

  transition_fits : (i : ℕ) (r : Row) → fits_width 5 r ≡ true → fits_width 5 (cut_transition k i r) ≡ true
  transition_fits i r e =
      let b = (and_parts (eqb (length r) 5) (bytes r) e).1 in
      either_fits 5 (is (held (transition_entry r)) (keeps_from k)) (with_shown_to k r) (blank_row transitions) (rw (byte_below r 0 b, byte_below r 1 b, shown_byte r (at r 0) 2 b, byte_below r 3 b, byte_below r 4 b)) refl

-- ---- the sheet

module _ (k : Kept) (chosen : Chosen) (s : Sheet) (e : shaped shapes s ≡ true) where
  -- a section whose rows stay or become blank
  stays_shaped : {X : Type 0} (j : ℕ) (entry : Row → Entry X) (test : ℕ → X → Bool) → fits_width (width_of j) (blank_row j) ≡ true → j < 9 → fits_shape (get_or shapes j (shape 0 0 0)) (numbered (λ i. stays_if j entry (test i)) (rows s j)) ≡ true
  stays_shaped j entry test blank l =
      numbered_fits (get_or shapes j (shape 0 0 0)) (λ i. stays_if j entry (test i))
      (λ i r f. either_fits (width_of j) (is (held (entry r)) (test i)) r (blank_row j) f blank)
      (rows s j) (shaped_at shapes s j e l)

  pub cut_shaped : shaped shapes (cut_sheet k chosen s) ≡ true
  cut_shaped =
      and_from _ _ (numbered_fits (shape 2 1 16) (cut_component k) (component_fits k) (rows s components) (shaped_at shapes s components e (omega arith)))
      (and_from _ _ (stays_shaped elements element_entry (λ i x. k (KeptElement i)) refl (omega arith))
      (and_from _ _ (stays_shaped events event_entry (λ i x. k (KeptEvent i)) refl (omega arith))
      (and_from _ _ (stays_shaped nodes node_entry (λ i x. is_used k chosen s i) refl (omega arith))
      (and_from _ _ (stays_shaped flows flow_entry (λ i x. k (KeptElement x.port)) refl (omega arith))
      (and_from _ _ (stays_shaped connections connection_entry (λ i. keeps_events k) refl (omega arith))
      (and_from _ _ (numbered_fits (shape 5 0 64) (cut_transition k) (transition_fits k) (rows s transitions) (shaped_at shapes s transitions e (omega arith)))
      (and_from _ _ (stays_shaped settings setting_entry (λ i. keeps_setting k s) refl (omega arith))
      (and_from _ _ (stays_shaped questions question_entry (λ i x. chosen i) refl (omega arith)) refl))))))))
