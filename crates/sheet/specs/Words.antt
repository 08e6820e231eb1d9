-- The words of a refusal.
use Rattle.std.specs.Prelude.{ℕ, List, codes}
use Rattle.refused.specs.declared.Refused.{Refused}
use Rattle.sheet.specs.Accept.{number_of}
use Rattle.sheet.specs.declared.refusal.Reason.{Reason}
use Rattle.sheet.specs.declared.refusal.Reason.TheVariants.{EndsEarly, LeftOver, CountNotAllowed, WrongByItself, WrongByReference, Clash, ForbiddenResting}
use Rattle.sheet.specs.declared.refusal.Refusal.{Refusal}

-- what a reason stands for
abbrev pub reason_text : Reason → List ℕ
reason_text EndsEarly = codes "the bytes end early"
reason_text LeftOver = codes "bytes are left over"
reason_text CountNotAllowed = codes "the number of rows is not allowed"
reason_text WrongByItself = codes "a field is wrong by itself"
reason_text WrongByReference = codes "a field is wrong by what it names"
reason_text Clash = codes "the row clashes with an earlier one"
reason_text ForbiddenResting = codes "a node rests on what it must not"

-- a refusal as it is told: the number of its reason, its section and its row
abbrev pub refused_as : Refusal → Refused
refused_as f = record { number = number_of f.reason; first = f.section; second = f.row }
