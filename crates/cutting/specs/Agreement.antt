-- Piles of cuts, runs, and what it means that a whole sheet and a pile agree.
use Rattle.std.specs.Prelude.{◌≡◌, ℕ, true, List, [], ◌∷◌, is_some, Ok}
use Rattle.sheet.specs.Lookup.{element_at, transition_at, question_at}
use Rattle.sheet.specs.Sections.{Sheet}
use Rattle.running.specs.declared.kinds.Step.{Step}
use Rattle.running.specs.States.{State, start_state}
use Rattle.running.specs.Steps.{parts, step_reply, step_state, answer_of, value_at, Reached}
use Rattle.cutting.specs.declared.kinds.RunCall.{RunCall}
use Rattle.cutting.specs.declared.kinds.RunCall.TheVariants.{Home, Step as MakeStep, Answer}
use Rattle.cutting.specs.CutSheet.{cut_sheet}
use Rattle.cutting.specs.Kept.{Kept, Chosen, Smallest}

-- A pile on the sheet a: any number of cuts, one above the other. Its sheet is what they make of a, the lowest first.
pub data Pile (a : Sheet) : Sheet → Type 0 where
  uncut : Pile a a
  cut_above : {b : Sheet} {chosen : Chosen} {k : Kept} → Pile a b → Smallest b chosen k → Pile a (cut_sheet k chosen b)

-- ---- what a pile kept: the row of its sheet exists and is not blank

abbrev pub IsKeptQuestion : Sheet → ℕ → Type 0
IsKeptQuestion b q = is_some (question_at b q) ≡ true

abbrev pub IsKeptTransition : Sheet → ℕ → Type 0
IsKeptTransition b t = is_some (transition_at b t) ≡ true

abbrev pub IsKeptElement : Sheet → ℕ → Type 0
IsKeptElement b e = is_some (element_at b e) ≡ true

-- P holds of each element of a list
abbrev pub Every : {X : Type 0} → (X → Type 0) → List X → Type 0
Every P [] = Unit {0}
Every P (x ∷ xs) = P x × Every P xs

-- the step names only transitions that the pile kept
abbrev pub KeptStep : Sheet → Step → Type 0
KeptStep b x = Every (IsKeptTransition b) (parts x)

-- ---- runs on two sheets, a in the state w and b in the state p

-- Every question that b kept has the same answer on both, and every element that b kept the same value.
pub record SameAnswers (a b : Sheet) (w p : State) : Type 0 where
  pub answers : (q : ℕ) → IsKeptQuestion b q → answer_of a w q ≡ answer_of b p q
  pub values : (e : ℕ) → IsKeptElement b e → value_at a w e ≡ value_at b p e

-- A call gets the same reply on both: a step that names only transitions that b kept, and a question that b kept.
abbrev pub SameReply : (a b : Sheet) → (w p : State) → RunCall → Type 0
SameReply a b w p Home = Unit {0}
SameReply a b w p (MakeStep x) = KeptStep b x → step_reply a w x ≡ step_reply b p x
SameReply a b w p (Answer q) = IsKeptQuestion b q → answer_of a w q ≡ answer_of b p q

-- the state after a call
abbrev pub after_call : Sheet → State → RunCall → State
after_call s w Home = start_state s
after_call s w (MakeStep x) = step_state s w x
after_call s w (Answer q) = w

-- the state after a list of calls
abbrev pub after_run : Sheet → State → List RunCall → State
after_run s w [] = w
after_run s w (x ∷ xs) = after_run s (after_call s w x) xs

-- Both agree throughout a list of calls: the answers are the same before it and after each call, and so is each reply.
abbrev pub Agree : (a b : Sheet) → (w p : State) → List RunCall → Type 0
Agree a b w p [] = SameAnswers a b w p
Agree a b w p (x ∷ xs) = SameAnswers a b w p × (SameReply a b w p x × Agree a b (after_call a w x) (after_call b p x) xs)

-- ---- questions over all reached states

-- The question is true in some state that the sheet reaches.
pub record TrueSomewhere (s : Sheet) (q : ℕ) : Type 0 where
  pub state : State
  pub reached : Reached s state
  pub true_there : answer_of s state q ≡ Ok true
