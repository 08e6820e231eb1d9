-- What a call of a session does to a rig, and what is said of it.
use Rattle.std.specs.Prelude.{ℕ, Bool, List, ℤ, Some, None, Ok, Err, Option, Result}
use Rattle.running.specs.States.{State, start_state}
use Rattle.running.specs.Steps.{mode_at, value_at, step_reply, step_state, answer_of}
use Rattle.running.specs.declared.kinds.NoQuestion.{NoQuestion}
use Rattle.running.specs.declared.kinds.Step.TheVariants.{Alone as ByOne, Pair as ByTwo}
use Rattle.running.specs.declared.kinds.StepRefusal.{StepRefusal}
use Rattle.sheet.specs.Cells.{count_of, byte_of}
use Rattle.sheet.specs.Sections.{Sheet}
use Rattle.session.specs.Calls.{call_of}
use Rattle.session.specs.declared.call.Call.{Call}
use Rattle.session.specs.declared.call.Call.TheVariants.{Alone, Pair, Home, Answer, Mode, Value, Count, Byte}
use Rattle.session.specs.declared.reply.Reply.{Reply}
use Rattle.session.specs.declared.reply.Reply.TheVariants.{Made, Refused, Truth, NoQuestion as ANoQuestion, Nothing, NotACall, Count as ACount, Value as AValue}

abbrev pub step_said : Result (Unit {0}) StepRefusal → Reply
step_said (Ok u) = Made
step_said (Err f) = Refused f

abbrev pub answer_said : Result Bool NoQuestion → Reply
answer_said (Ok truth) = Truth truth
answer_said (Err f) = ANoQuestion f

abbrev pub count_said : Option ℕ → Reply
count_said (Some n) = ACount n
count_said None = Nothing

abbrev pub value_said : Option ℤ → Reply
value_said (Some v) = AValue v
value_said None = Nothing

-- What is said of a call, on a sheet in a state.
abbrev pub reply_of : Sheet → State → Call → Reply
reply_of s w (Alone t) = step_said (step_reply s w (ByOne t))
reply_of s w (Pair t h) = step_said (step_reply s w (ByTwo t h))
reply_of s w Home = Made
reply_of s w (Answer q) = answer_said (answer_of s w q)
reply_of s w (Mode c) = count_said (mode_at s w c)
reply_of s w (Value e) = value_said (value_at s w e)
reply_of s w (Count n) = count_said (count_of s n)
reply_of s w (Byte n row place) = count_said (byte_of s n row place)

-- The state after a call: a step leads on where it is made, home leads to the start, and nothing else alters it.
abbrev pub state_after : Sheet → State → Call → State
state_after s w (Alone t) = step_state s w (ByOne t)
state_after s w (Pair t h) = step_state s w (ByTwo t h)
state_after s w Home = start_state s
state_after s w (Answer q) = w
state_after s w (Mode c) = w
state_after s w (Value e) = w
state_after s w (Count n) = w
state_after s w (Byte n row place) = w

abbrev pub said : Sheet → State → Option Call → Reply
said s w None = NotACall
said s w (Some call) = reply_of s w call

abbrev pub left : Sheet → State → Option Call → State
left s w None = w
left s w (Some call) = state_after s w call

-- What is said of a line, and the state after it: a line that is no call alters nothing.
abbrev pub reply_to_line : Sheet → State → List ℕ → Reply
reply_to_line s w line = said s w (call_of line)

abbrev pub state_after_line : Sheet → State → List ℕ → State
state_after_line s w line = left s w (call_of line)
