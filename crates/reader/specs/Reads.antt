-- What reading answers.
use Rattle.std.specs.Prelude.{◌≡◌, ℕ, List, Some, None, Ok, Err, Option, Result}
use Rattle.sheet.specs.Sections.{Sheet}
use Rattle.sheet.specs.Accept.{number_of, verdict, accept}
use Rattle.sheet.specs.Laws.{WritesBack, KeepsTheRules, RestingIsReaching}
use Rattle.reader.specs.declared.accepted.AcceptedSheet.{AcceptedSheet}
use Rattle.reader.specs.declared.fault.ReadFault.{ReadFault}
use Rattle.reader.specs.declared.fault.ReadFault.TheVariants.{Refused, OutOfMemory}
use Rattle.reader.specs.Means.{rows_held}

-- The sheet holds the rows that the bytes are accepted as, or the bytes are refused so. Memory is wanted only for bytes
-- that are accepted.
abbrev pub Reads : List ℕ → Result AcceptedSheet ReadFault → Type 0
Reads bs (Ok s) = accept bs ≡ Ok (rows_held s)
Reads bs (Err (Refused f)) = accept bs ≡ Err f
Reads bs (Err OutOfMemory) = verdict bs ≡ Ok tt

-- Writing what was read gives the same bytes.
abbrev pub WritesTheSameBytes : List ℕ → Result AcceptedSheet ReadFault → Type 0
WritesTheSameBytes bs (Ok s) = WritesBack bs (rows_held s)
WritesTheSameBytes bs (Err e) = Unit {0}

-- What the rows of an accepted sheet keep: every rule of their section; and what the rules call resting is reaching by
-- operands.
pub record Kept (s : Sheet) : Type 0 where
  pub rules : KeepsTheRules s
  pub resting : RestingIsReaching s

abbrev pub KeepsEveryRule : Result AcceptedSheet ReadFault → Type 0
KeepsEveryRule (Ok s) = Kept (rows_held s)
KeepsEveryRule (Err e) = Unit {0}

-- The number of a fault and the section and row that it names; want of memory is no refusal and has none.
abbrev pub fault_of : ReadFault → Option (ℕ × ℕ × ℕ)
fault_of (Refused f) = Some (number_of f.reason, f.section, f.row)
fault_of OutOfMemory = None
