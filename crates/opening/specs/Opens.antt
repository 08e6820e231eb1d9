-- What comes of the line that opens a sheet.
use Rattle.std.specs.Prelude.{◌≡◌, ℕ, List, Some, None, Ok, Err, Option, Result}
use Rattle.open_rig.specs.Open.{rows_of, AtStart}
use Rattle.open_rig.specs.declared.open.OpenRig.{OpenRig}
use Rattle.session.specs.Lines.{opened}
use Rattle.session.specs.declared.reply.Reply.{Reply}
use Rattle.session.specs.declared.reply.Reply.TheVariants.{NotACall, NoSheet}
use Rattle.sheet.specs.Accept.{accept}
use Rattle.sheet.specs.Sections.{Sheet}
use Rattle.sheet.specs.declared.refusal.Refusal.{Refusal}

abbrev pub sheet_or_reply : Result Sheet Refusal → Result Sheet Reply
sheet_or_reply (Ok s) = Ok s
sheet_or_reply (Err f) = Err (NoSheet f)

abbrev pub opened_as : Option (List ℕ) → Result Sheet Reply
opened_as None = Err NotACall
opened_as (Some bs) = sheet_or_reply (accept bs)

-- The rows of the sheet that a line opens, or what is said where it opens none.
abbrev pub opened_sheet : List ℕ → Result Sheet Reply
opened_sheet line = opened_as (opened line)

-- a rig of the sheet that the line opens, at its start
pub record Opened (line : List ℕ) (x : OpenRig) : Type 0 where
  pub rows : opened_sheet line ≡ Ok (rows_of x)
  pub at_start : AtStart (rows_of x) x

abbrev pub Opens : List ℕ → Result OpenRig Reply → Type 0
Opens line (Ok x) = Opened line x
Opens line (Err reply) = opened_sheet line ≡ Err reply
