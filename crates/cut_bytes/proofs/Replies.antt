-- The reply to an input from what the one-call cut answers, with a buffer as long as the sheet.
use Rattle.std.proofs.Common.{◌≡◌, ℕ, List, ◌++◌, length, Ok, Err, sym, ap, ◌∙◌, subst, append-nil, arith}
use Rattle.std.proofs.lemmas.List.{drop_all}
use Rattle.cutting.specs.CutSheet.{cut_fault, IsCutFor}
use Rattle.cutting.specs.Kept.{chosen_in}
use Rattle.cutting.proofs.CutLengths.{cut_long}
use Rattle.reader.specs.declared.fault.ReadFault.TheVariants.{Refused, OutOfMemory}
use Rattle.sheet.specs.Accept.{accept}
use Rattle.sheet.specs.Laws.{WritesBack}
use Rattle.sheet.specs.Sections.{Sheet, bytes_of}
use Rattle.cut_bytes.specs.declared.fault.CutFault.{CutFault}
use Rattle.cut_bytes.specs.declared.fault.CutFault.TheVariants.{Reading, Cutting, Writing}
use Rattle.cut_bytes.specs.OneCall.{CutOfBytes}
use Rattle.cut_bytes.specs.Reply.{set_in, sheet_in, LineOf, ReplyTo, the_cut, no_such_cut, no_sheet}

-- a cut of the sheet that bytes are has as many bytes
as_long : (bs : List ℕ) (s t : Sheet) (set : ℕ) → WritesBack bs s → IsCutFor s set t → length (bytes_of t) ≡ length bs
as_long bs s t set w c = ap (λ t. length (bytes_of t)) c.leaves ∙ cut_long c.kept (chosen_in set) s w.accepts c.smallest.closed ∙ ap length w.same_bytes

module _ (input before behind sheet : List ℕ) (set : ℕ) (is_sheet : sheet ≡ sheet_in input) (is_set : set ≡ set_in input) (long : length before ≡ length sheet) where
  -- the cut fills the buffer
  pub cut_fills : (n : ℕ) → CutOfBytes sheet set before behind (Ok n) → ReplyTo input behind × (length behind ≡ length sheet)
  cut_fills n r =
      let c = r.cuts in
      let same = as_long sheet r.sheet c.cut set r.writes_back c.is_cut in
      let whole : behind ≡ bytes_of c.cut = c.written ∙ ap (λ l. bytes_of c.cut ++ l) (drop_all (length (bytes_of c.cut)) before (omega arith)) ∙ append-nil (bytes_of c.cut) in
      let is_cut = subst (λ n. IsCutFor r.sheet n c.cut) is_set c.is_cut in
      (the_cut r.sheet c.cut (ap accept (sym is_sheet) ∙ r.accepts) (ap (cut_fault r.sheet) (sym is_set) ∙ c.is_there) is_cut whole, ap length whole ∙ same)

  -- a fault's line; the buffer is never too short
  pub fault_replies : (fault : CutFault) → CutOfBytes sheet set before behind (Err fault) → (out : List ℕ) → LineOf fault out → ReplyTo input out
  fault_replies (Reading (Refused f)) r out e = no_sheet f (ap accept (sym is_sheet) ∙ r.0) e
  fault_replies (Reading OutOfMemory) r out e = absurd e
  fault_replies (Cutting f) r out e = no_such_cut r.sheet f (ap accept (sym is_sheet) ∙ r.accepts) (ap (cut_fault r.sheet) (sym is_set) ∙ r.cuts.0) e
  fault_replies (Writing f) r out e =
      let c = r.cuts.0 in
      let same = as_long sheet r.sheet c.cut set r.writes_back c.is_cut in
      let short = c.no_room in
      absurd (omega arith)
