-- What is said of a call.
use Rattle.std.specs.Prelude.{ℕ, cond, List, ◌++◌, codes, decimal, Some, None, Option}
use Rattle.std.specs.Fmt.{signed_decimal}
use Rattle.running.specs.Steps.{step_number, step_names, no_question_number}
use Rattle.sheet.specs.Accept.{number_of}
use Rattle.session.specs.declared.reply.Reply.{Reply}
use Rattle.session.specs.declared.reply.Reply.TheVariants.{Made, Refused, Truth, NoQuestion, RefusedBy, Count, Value, Nothing, NotACall, NoSheet}

-- the number of a refusal, and what it names
abbrev pub numbered : (number name : ℕ) → List ℕ
numbered n a = codes "refused " ++ (decimal n ++ (codes " " ++ decimal a))

-- The line for a reply; a number is written in base ten, a negative one with a minus.
abbrev pub reply_line : Reply → List ℕ
reply_line Made = codes "made"
reply_line (Refused f) = numbered (step_number f) (step_names f)
reply_line (Truth truth) = cond truth (codes "true") (codes "false")
reply_line (NoQuestion f) = numbered (no_question_number f) f.question
reply_line (RefusedBy number named) = numbered number named
reply_line (Count n) = decimal n
reply_line (Value n) = signed_decimal n
reply_line Nothing = codes "nothing"
reply_line NotACall = codes "not a call"
reply_line (NoSheet f) = codes "refused " ++ (decimal (number_of f.reason) ++ (codes " " ++ (decimal f.section ++ (codes " " ++ decimal f.row))))

-- The number of the refusal of a call, and what it names; nothing for any other reply.
abbrev pub refusal_told : Reply → Option (ℕ × ℕ)
refusal_told Made = None
refusal_told (Refused f) = Some (step_number f, step_names f)
refusal_told (Truth truth) = None
refusal_told (NoQuestion f) = Some (no_question_number f, f.question)
refusal_told (RefusedBy number named) = Some (number, named)
refusal_told (Count n) = None
refusal_told (Value n) = None
refusal_told Nothing = None
refusal_told NotACall = None
refusal_told (NoSheet f) = None
