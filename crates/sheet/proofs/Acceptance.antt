-- Verdicts name the first fault; reading and writing undo each other.
use Rattle.std.proofs.Common.{◌≡◌, ℕ, true, not, List, is_some, Some, None, Ok, Err, Result, refl, ap, ◌∙◌, arith}
use Rattle.std.proofs.lemmas.Bool.{and_parts, and_from, false≢true}
use Rattle.sheet.specs.declared.refusal.Refusal.{Refusal}
use Rattle.sheet.specs.Sections.{Sheet, shapes, bytes, shaped, bytes_of}
use Rattle.sheet.specs.Tries.{Try, first_fault, MeansFirst}
use Rattle.sheet.specs.Accept.{layout_tries, sheet_tries, rows_in, accepted, tries, judged, accept}
use Rattle.sheet.specs.Laws.{NamesTheFirstFault, WritesBack, ReadsBack}
use Rattle.sheet.proofs.Firsts.{means_first, first_parts, first_both}
use Rattle.sheet.proofs.Layouts.{layout_bytes, layout_shaped, shaped_layout, shaped_sections}

named_first : {X : Type 0} (bs : List ℕ) (x : X) (v : Try Refusal) → MeansFirst (tries bs) v → NamesTheFirstFault bs (judged x v)
named_first bs x None h = h
named_first bs x (Some f) h = h

-- what is judged by the first fault names it
pub names_first : {X : Type 0} (bs : List ℕ) (x : X) → NamesTheFirstFault bs (judged x (first_fault (tries bs)))
names_first bs x = named_first bs x (first_fault (tries bs)) (means_first (tries bs))

-- the same of any answer that is such a verdict
pub names_first_as : {X : Type 0} (bs : List ℕ) (x : X) (r : Result X Refusal) → r ≡ judged x (first_fault (tries bs)) → NamesTheFirstFault bs r
names_first_as bs x r e = rw e (names_first bs x)

pub judged_ok : {X : Type 0} (x y : X) (v : Try Refusal) → judged x v ≡ Ok y → (v ≡ None) × (x ≡ y)
judged_ok x y None e = (refl, cc)
judged_ok x y (Some f) e = absurd (let z : ◌≡◌ {A = ℕ} 0 1 = cc in omega arith)

pub judged_err : {X : Type 0} (x : X) (v : Try Refusal) (f : Refusal) → judged x v ≡ Err f → v ≡ Some f
judged_err x None f e = absurd (let z : ◌≡◌ {A = ℕ} 0 1 = cc in omega arith)
judged_err x (Some g) f e = cc

pub none_passes : (v : Try Refusal) → v ≡ None → not (is_some v) ≡ true
none_passes v e = rw e

pub passes_none : (v : Try Refusal) → not (is_some v) ≡ true → v ≡ None
passes_none None e = refl
passes_none (Some f) e = absurd (false≢true e)

-- bytes without a fault
pub no_fault_writes : (bs : List ℕ) → bytes bs ≡ true → first_fault (tries bs) ≡ None → WritesBack bs (rows_in bs)
no_fault_writes bs b e =
    let p = first_parts (layout_tries 0 shapes bs) (sheet_tries (rows_in bs)) e in
    record {
      same_bytes = layout_bytes 0 shapes bs p.0;
      accepts = and_from (shaped shapes (rows_in bs)) _ (layout_shaped 0 shapes bs b p.0) (none_passes (first_fault (sheet_tries (rows_in bs))) p.1);
    }

-- writing what was read gives the same bytes
pub writes_back : (bs : List ℕ) (s : Sheet) → bytes bs ≡ true → accept bs ≡ Ok s → WritesBack bs s
writes_back bs s b e =
    let p = judged_ok (rows_in bs) s (first_fault (tries bs)) e in
    rw (← p.1) (no_fault_writes bs b p.0)

-- reading what was written gives the same sheet
pub reads_back : (s : Sheet) → accepted s ≡ true → ReadsBack s
reads_back s a =
    let p = and_parts (shaped shapes s) (not (is_some (first_fault (sheet_tries s)))) a in
    let same = shaped_sections shapes s p.0 in
    let none : first_fault (tries (bytes_of s)) ≡ None =
    first_both (layout_tries 0 shapes (bytes_of s)) (sheet_tries (rows_in (bytes_of s))) (shaped_layout 0 shapes s p.0)
    (ap (λ t. first_fault (sheet_tries t)) same ∙ passes_none (first_fault (sheet_tries s)) p.1) in
    ap (judged (rows_in (bytes_of s))) none ∙ ap Ok same
