-- A cut sheet has as many bytes as the whole sheet.
use Rattle.std.proofs.Common.{◌≡◌, ℕ, suc, ◌+◌, ◌*◌, ◌<◌, true, [], ◌∷◌, length, Some, Option, sym, refl, ap, ◌∙◌, arith, length-append}
use Rattle.sheet.specs.Accept.{accepted}
use Rattle.sheet.specs.Sections.{Sheet, rows, width_of, section_bytes, bytes_of}
use Rattle.sheet.proofs.Shapes.{nine_sections, sized}
use Rattle.cutting.specs.CutSheet.{cut_sheet}
use Rattle.cutting.specs.Kept.{Kept, Chosen, Closed}
use Rattle.cutting.proofs.AcceptedCuts.{cuts_are_accepted}
use Rattle.cutting.proofs.CutBytes.{count_cut}

-- sheets whose sections are as long, one by one
same_length : (s t : Sheet) → length s ≡ length t → ((i : ℕ) → i < length s → length (section_bytes (rows s i)) ≡ length (section_bytes (rows t i))) → length (bytes_of s) ≡ length (bytes_of t)
same_length [] [] e h = refl
same_length [] (y ∷ t) e h = absurd (omega arith)
same_length (x ∷ s) [] e h = absurd (omega arith)
same_length (x ∷ s) (y ∷ t) e h =
    let first = h 0 (omega arith) in
    let rest = same_length s t (omega arith) (λ i l. h (suc i) (omega arith)) in
    length-append (section_bytes x) (bytes_of s) ∙ omega arith ∙ sym (length-append (section_bytes y) (bytes_of t))

module _ (k : Kept) (chosen : Chosen) (s : Sheet) (a : accepted s ≡ true) (closed : Closed s chosen k) where
  cut_accepted : accepted (cut_sheet k chosen s) ≡ true
  cut_accepted = cuts_are_accepted s chosen k closed a

  same_section : (i : ℕ) → i < 9 → length (section_bytes (rows (cut_sheet k chosen s) i)) ≡ length (section_bytes (rows s i))
  same_section i l =
      let here = sized (cut_sheet k chosen s) i cut_accepted l in
      let there = sized s i a l in
      let counts : ◌≡◌ {A = Option ℕ} (Some (length (rows (cut_sheet k chosen s) i))) (Some (length (rows s i))) = sym here.counted ∙ count_cut k chosen s a i ∙ there.counted in
      let same : length (rows (cut_sheet k chosen s) i) ≡ length (rows s i) = cc in
      here.long ∙ ap (λ n. 1 + n * width_of i) same ∙ sym there.long

  pub cut_long : length (bytes_of (cut_sheet k chosen s)) ≡ length (bytes_of s)
  cut_long = same_length (cut_sheet k chosen s) s (nine_sections (cut_sheet k chosen s) cut_accepted ∙ sym (nine_sections s a)) (λ i l. same_section i (omega (arith, nine_sections (cut_sheet k chosen s) cut_accepted)))
