-- The one-call cut: bytes read as a sheet, the sheet cut, and the cut written.
use Rattle.std.specs.Prelude.{◌≡◌, ℕ, ◌<◌, ◌≤◌, List, ◌++◌, length, drop, Some, None, Ok, Err, Option, Result}
use Rattle.cutting.specs.CutSheet.{cut_fault, IsCutFor, no_cut_number, question_told}
use Rattle.reader.specs.declared.fault.ReadFault.TheVariants.{Refused, OutOfMemory}
use Rattle.reader.specs.Reads.{fault_of}
use Rattle.sheet.specs.Accept.{accept, verdict}
use Rattle.sheet.specs.Laws.{WritesBack}
use Rattle.sheet.specs.Sections.{Sheet, bytes_of}
use Rattle.writer.specs.Written.{too_short_number}
use Rattle.cut_bytes.specs.declared.fault.CutFault.{CutFault}
use Rattle.cut_bytes.specs.declared.fault.CutFault.TheVariants.{Reading, Cutting, Writing}

-- The number of a fault and the two numbers that it names: section and row; the question; the length that is needed.
-- Want of memory is no refusal and has none.
abbrev pub numbers_of : CutFault → Option (ℕ × ℕ × ℕ)
numbers_of (Reading f) = fault_of f
numbers_of (Cutting f) = Some (no_cut_number f, question_told f, 0)
numbers_of (Writing f) = Some (too_short_number f, f.needed, 0)

-- The cut t of the sheet s for a set of questions was written to the front of a buffer with room for it: n is its
-- length, and what was behind it stays.
pub record CutWritten (s : Sheet) (set : ℕ) (before behind : List ℕ) (n : ℕ) : Type 0 where
  pub cut : Sheet
  pub is_there : cut_fault s set ≡ None
  pub is_cut : IsCutFor s set cut
  pub room : length (bytes_of cut) ≤ length before
  pub long : n ≡ length (bytes_of cut)
  pub written : behind ≡ bytes_of cut ++ drop (length (bytes_of cut)) before

-- The buffer has no room for the cut, whose length is n.
pub record NoRoom (s : Sheet) (set : ℕ) (before : List ℕ) (n : ℕ) : Type 0 where
  pub cut : Sheet
  pub is_there : cut_fault s set ≡ None
  pub is_cut : IsCutFor s set cut
  pub no_room : length before < length (bytes_of cut)
  pub needed : n ≡ length (bytes_of cut)

-- What cutting and writing a sheet answer, and what they leave of the buffer.
abbrev pub CutOfSheet : (s : Sheet) → (set : ℕ) → (before behind : List ℕ) → Result ℕ CutFault → Type 0
CutOfSheet s set before behind (Ok n) = CutWritten s set before behind n
CutOfSheet s set before behind (Err (Reading f)) = ⊥
CutOfSheet s set before behind (Err (Cutting f)) = (cut_fault s set ≡ Some f) × (behind ≡ before)
CutOfSheet s set before behind (Err (Writing f)) = NoRoom s set before f.needed × (behind ≡ before)

-- The bytes were read as a sheet, whose bytes they are, and that was cut and written.
pub record ReadAndCut (bs : List ℕ) (set : ℕ) (before behind : List ℕ) (r : Result ℕ CutFault) : Type 0 where
  pub sheet : Sheet
  pub accepts : accept bs ≡ Ok sheet
  pub writes_back : WritesBack bs sheet
  pub cuts : CutOfSheet sheet set before behind r

-- What the one-call cut answers, and what it leaves of the buffer. Memory is wanted only for bytes that are accepted.
abbrev pub CutOfBytes : (bs : List ℕ) → (set : ℕ) → (before behind : List ℕ) → Result ℕ CutFault → Type 0
CutOfBytes bs set before behind (Ok n) = ReadAndCut bs set before behind (Ok n)
CutOfBytes bs set before behind (Err (Reading (Refused f))) = (accept bs ≡ Err f) × (behind ≡ before)
CutOfBytes bs set before behind (Err (Reading OutOfMemory)) = (verdict bs ≡ Ok tt) × (behind ≡ before)
CutOfBytes bs set before behind (Err (Cutting f)) = ReadAndCut bs set before behind (Err (Cutting f))
CutOfBytes bs set before behind (Err (Writing f)) = ReadAndCut bs set before behind (Err (Writing f))
