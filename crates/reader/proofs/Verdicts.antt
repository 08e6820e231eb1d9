-- The verdict, from the layout and from the rows.
use Rattle.std.proofs.Common.{◌≡◌, ℕ, true, List, Some, None, Ok, Err, Result, sym, ap, ◌∙◌}
use Rattle.layout.specs.declared.rows.Layout.{Layout}
use Rattle.layout.specs.Laid.{rows_of, LaysOut}
use Rattle.sheet.specs.declared.refusal.Refusal.{Refusal}
use Rattle.sheet.specs.Sections.{Sheet, shapes, bytes}
use Rattle.sheet.specs.Tries.{first_fault}
use Rattle.sheet.specs.Accept.{layout_tries, sheet_tries, rows_in, tries, judged, accept, accepted}
use Rattle.sheet.proofs.Acceptance.{judged_ok, judged_err, no_fault_writes}
use Rattle.sheet.proofs.Firsts.{first_then, first_fails}

-- bytes whose layout is refused
pub refused_layout : (bs : List ℕ) (f : Refusal) → LaysOut bs (Err f) → first_fault (tries bs) ≡ Some f
refused_layout bs f e = first_fails (layout_tries 0 shapes bs) (sheet_tries (rows_in bs)) f e

module _ (bs : List ℕ) (l : Layout) (h : LaysOut bs (Ok l)) where
  -- bytes that are laid out are judged by their rows
  pub judged_by_rows : first_fault (sheet_tries (rows_of l)) ≡ first_fault (tries bs)
  judged_by_rows = ap (λ t. first_fault (sheet_tries t)) h.1 ∙ sym (first_then (layout_tries 0 shapes bs) (sheet_tries (rows_in bs)) h.0)

  pub rows_refused : (f : Refusal) → ◌≡◌ {A = Result (Unit {0}) Refusal} (Err f) (judged tt (first_fault (sheet_tries (rows_of l)))) → first_fault (tries bs) ≡ Some f
  rows_refused f e = sym judged_by_rows ∙ judged_err tt (first_fault (sheet_tries (rows_of l))) f (sym e)

  module _ (e : ◌≡◌ {A = Result (Unit {0}) Refusal} (Ok tt) (judged tt (first_fault (sheet_tries (rows_of l))))) where
    pub no_fault : first_fault (tries bs) ≡ None
    no_fault = sym judged_by_rows ∙ (judged_ok tt tt (first_fault (sheet_tries (rows_of l))) (sym e)).0

    pub rows_accepted : bytes bs ≡ true → accepted (rows_of l) ≡ true
    rows_accepted b = ap accepted h.1 ∙ (no_fault_writes bs b no_fault).accepts

    -- rows that are those of the layout
    pub rows_taken : (s : Sheet) → s ≡ rows_of l → accept bs ≡ Ok s
    rows_taken s is = ap (judged (rows_in bs)) no_fault ∙ ap Ok (sym (is ∙ h.1))
