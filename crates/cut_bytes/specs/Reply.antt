-- What the program writes for its input: a set of questions and a sheet.
use Rattle.std.specs.Prelude.{◌≡◌, ℕ, List, ◌++◌, drop, Some, None, Ok, Err, codes, slice_index}
use Rattle.cutting.specs.declared.kinds.NoCut.{NoCut}
use Rattle.cutting.specs.CutSheet.{cut_fault, IsCutFor, no_cut_number, question_told}
use Rattle.reader.specs.declared.fault.ReadFault.TheVariants.{Refused, OutOfMemory}
use Rattle.refused.specs.Line.{refused_at}
use Rattle.sheet.specs.declared.refusal.Refusal.{Refusal}
use Rattle.sheet.specs.Accept.{number_of, accept}
use Rattle.sheet.specs.Sections.{Sheet, bytes_of}
use Rattle.sheet.specs.Typed.{mode_set}
use Rattle.writer.specs.Written.{too_short_number}
use Rattle.cut_bytes.specs.declared.fault.CutFault.{CutFault}
use Rattle.cut_bytes.specs.declared.fault.CutFault.TheVariants.{Reading, Cutting, Writing}

-- the set of questions: two bytes, the low byte first; a byte that is missing counts as 0
abbrev pub set_in : List ℕ → ℕ
set_in input = mode_set (slice_index input 0) (slice_index input 1)

-- the bytes of the sheet: all that follow; none where the input has under two bytes
abbrev pub sheet_in : List ℕ → List ℕ
sheet_in input = drop 2 input

-- a refusal as a line, ended by a line feed
abbrev pub refusal_line : (number first second : ℕ) → List ℕ
refusal_line n a b = refused_at n a b ++ codes "\n"

-- the line of a fault; want of memory has none
abbrev pub LineOf : CutFault → List ℕ → Type 0
LineOf (Reading (Refused f)) out = out ≡ refusal_line (number_of f.reason) f.section f.row
LineOf (Reading OutOfMemory) out = ⊥
LineOf (Cutting f) out = out ≡ refusal_line (no_cut_number f) (question_told f) 0
LineOf (Writing f) out = out ≡ refusal_line (too_short_number f) f.needed 0

-- What is written: the bytes of the cut; or that there is no such cut, with the question; or that the bytes are no sheet,
-- with section and row.
pub data ReplyTo (input out : List ℕ) : Type 0 where
  the_cut : (s t : Sheet) → accept (sheet_in input) ≡ Ok s → cut_fault s (set_in input) ≡ None → IsCutFor s (set_in input) t → out ≡ bytes_of t → ReplyTo input out
  no_such_cut : (s : Sheet) (f : NoCut) → accept (sheet_in input) ≡ Ok s → cut_fault s (set_in input) ≡ Some f → out ≡ refusal_line (no_cut_number f) (question_told f) 0 → ReplyTo input out
  no_sheet : (f : Refusal) → accept (sheet_in input) ≡ Err f → out ≡ refusal_line (number_of f.reason) f.section f.row → ReplyTo input out
