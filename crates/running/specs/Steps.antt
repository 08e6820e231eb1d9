-- Steps, replies, the state after a step, reached states and answers.
use Rattle.std.specs.Prelude.{◌≡◌, ℕ, Bool, true, false, cond, not, ◌&&◌, ◌||◌, List, [], ◌∷◌, ◌++◌, ℤ, pos, is_some, Some, None, Ok, Err, Option, Result, ◌==◌, ◌≢◌, nat_eq, slice_index_or, slice_set}
use Rattle.std.specs.Option.{option_map}
use Rattle.sheet.specs.declared.rows.Connection.{Connection}
use Rattle.sheet.specs.declared.rows.Element.{Element}
use Rattle.sheet.specs.declared.rows.Question.{Question}
use Rattle.sheet.specs.declared.rows.Setting.{Setting}
use Rattle.sheet.specs.declared.rows.Transition.{Transition}
use Rattle.sheet.specs.Lookup.{held, component_at, element_at, event_at, connection_at, transition_at, question_at, is}
use Rattle.sheet.specs.Rules.{goes_out}
use Rattle.sheet.specs.Sections.{Row, Sheet, rows, connections, settings}
use Rattle.sheet.specs.Tries.{Try, must, first_fault}
use Rattle.sheet.specs.Typed.{connection_entry, setting_entry}
use Rattle.running.specs.declared.kinds.NoQuestion.{NoQuestion}
use Rattle.running.specs.declared.kinds.Step.{Step}
use Rattle.running.specs.declared.kinds.Step.TheVariants.{Alone, Pair}
use Rattle.running.specs.declared.kinds.StepRefusal.{StepRefusal}
use Rattle.running.specs.declared.kinds.StepRefusal.TheVariants.{NoTransition, NoStep, OtherMode, NotConnected, GuardFalse}
use Rattle.running.specs.States.{State, mode_of, start_state}
use Rattle.running.specs.Values.{bring, lists, number_in, truth_in, values, node_value}

-- The number of each refusal of a step, and the transition that it names.
abbrev pub step_number : StepRefusal → ℕ
step_number (NoTransition t) = 8
step_number (NoStep t) = 9
step_number (OtherMode t) = 10
step_number (NotConnected t) = 11
step_number (GuardFalse t) = 12

abbrev pub step_names : StepRefusal → ℕ
step_names (NoTransition t) = t
step_names (NoStep t) = t
step_names (OtherMode t) = t
step_names (NotConnected t) = t
step_names (GuardFalse t) = t

-- the transitions that take part, the sender first
abbrev pub parts : Step → List ℕ
parts (Alone t) = t ∷ []
parts (Pair t h) = t ∷ h ∷ []

-- the sender, or the transition alone
abbrev pub leader : Step → ℕ
leader (Alone t) = t
leader (Pair t h) = t

-- ---- the checks

abbrev pub is_there : Sheet → ℕ → Bool
is_there s t = is_some (transition_at s t)

-- there is an event, and it goes out, or comes in
abbrev pub sends : Sheet → Option ℕ → Bool
sends s v = is v (λ e. is (event_at s e) goes_out)

abbrev pub hears : Sheet → Option ℕ → Bool
hears s v = is v (λ e. is (event_at s e) (λ y. not (goes_out y)))

abbrev pub well_made : Sheet → Step → Bool
well_made s (Alone t) = is (transition_at s t) (λ x. not (is_some x.event))
well_made s (Pair t h) = is (transition_at s t) (λ x. is (transition_at s h) (λ y. sends s x.event && (hears s y.event && not (x.component == y.component))))

abbrev pub in_from_mode : Sheet → State → ℕ → Bool
in_from_mode s w t = is (transition_at s t) (λ x. nat_eq (mode_of w x.component) x.from)

-- the connection carries the one event to the other: it lists the mode of its owner
abbrev pub carries : State → (out into : ℕ) → Connection → Bool
carries w o i k = k.out_event == o && (k.in_event == i && lists k.modes (mode_of w k.owner))

abbrev pub any_carries : State → (out into : ℕ) → List Row → Bool
any_carries w o i [] = false
any_carries w o i (r ∷ rs) = is (held (connection_entry r)) (carries w o i) || any_carries w o i rs

abbrev pub connected : Sheet → State → Step → Bool
connected s w (Alone t) = true
connected s w (Pair t h) = is (transition_at s t) (λ x. is (transition_at s h) (λ y. is x.event (λ o. is y.event (λ i. any_carries w o i (rows s connections)))))

abbrev pub guard_holds : Sheet → State → ℕ → Bool
guard_holds s w t = is (transition_at s t) (λ x. truth_in (node_value s w x.guard))

-- each transition that takes part is tried, the sender first
abbrev pub each_part : (ℕ → Bool) → (ℕ → StepRefusal) → List ℕ → List (Try StepRefusal)
each_part ok fault [] = []
each_part ok fault (t ∷ ts) = must (ok t) (fault t) ∷ each_part ok fault ts

-- The checks of a step, in their order.
abbrev pub step_tries : Sheet → State → Step → List (Try StepRefusal)
step_tries s w x =
    each_part (is_there s) NoTransition (parts x)
    ++ (must (well_made s x) (NoStep (leader x))
    ∷ (each_part (in_from_mode s w) OtherMode (parts x)
    ++ (must (connected s w x) (NotConnected (leader x))
    ∷ each_part (guard_holds s w) GuardFalse (parts x))))

-- the first check that fails
abbrev pub step_fault : Sheet → State → Step → Try StepRefusal
step_fault s w x = first_fault (step_tries s w x)

-- ---- what a step does

-- the modes after the transitions: each component stands in its to mode
abbrev pub moved_by : Option Transition → List ℕ → List ℕ
moved_by None ms = ms
moved_by (Some x) ms = slice_set ms x.component x.to

abbrev pub moved : Sheet → List ℕ → List ℕ → List ℕ
moved s [] ms = ms
moved s (t ∷ ts) ms = moved s ts (moved_by (transition_at s t) ms)

abbrev pub takes_part : ℕ → List ℕ → Bool
takes_part t [] = false
takes_part t (u ∷ us) = u == t || takes_part t us

-- what a setting gives its element, in the state before the step
abbrev pub set_value : Sheet → State → Setting → Option Element → List ℤ → List ℤ
set_value s w x None vs = vs
set_value s w x (Some e) vs = slice_set vs x.element (bring e.lowest e.highest (number_in (node_value s w x.node)))

abbrev pub set_by : Sheet → State → List ℕ → Option Setting → List ℤ → List ℤ
set_by s w ts None vs = vs
set_by s w ts (Some x) vs = cond (takes_part x.transition ts) (set_value s w x (element_at s x.element) vs) vs

abbrev pub settled : Sheet → State → List ℕ → List Row → List ℤ → List ℤ
settled s w ts [] vs = vs
settled s w ts (r ∷ rs) vs = settled s w ts rs (set_by s w ts (held (setting_entry r)) vs)

-- The state after a step that is made: all settings read the state before it.
abbrev pub made_state : Sheet → State → Step → State
made_state s w x =
    record {
      modes = moved s (parts x) w.modes;
      held = settled s w (parts x) (rows s settings) w.held;
    }

-- the reply: made, or the first refusal
abbrev pub replied : Try StepRefusal → Result (Unit {0}) StepRefusal
replied None = Ok tt
replied (Some f) = Err f

abbrev pub step_reply : Sheet → State → Step → Result (Unit {0}) StepRefusal
step_reply s w x = replied (step_fault s w x)

abbrev pub unless_refused : Try StepRefusal → (after before : State) → State
unless_refused None y w = y
unless_refused (Some f) y w = w

-- The state after a step was asked for: a refused step leaves it.
abbrev pub step_state : Sheet → State → Step → State
step_state s w x = unless_refused (step_fault s w x) (made_state s w x) w

-- ---- what it means for a step to be possible

-- the transition's component is in its from mode, and its guard holds
pub record Ready (s : Sheet) (w : State) (x : Transition) : Type 0 where
  pub in_mode : mode_of w x.component ≡ x.from
  pub guard : truth_in (node_value s w x.guard) ≡ true

-- some connection between the events lists its owner's mode
pub record Carried (s : Sheet) (w : State) (out into : ℕ) : Type 0 where
  pub row : ℕ
  pub connection : Connection
  pub stands : connection_at s row ≡ Some connection
  pub from_out : connection.out_event ≡ out
  pub to_in : connection.in_event ≡ into
  pub in_force : lists connection.modes (mode_of w connection.owner) ≡ true

-- A step is possible: one transition without event that is ready; or two of different components that are ready, the
-- first with an out event, the second with an in event, which a connection carries to it.
pub data Possible (s : Sheet) (w : State) : Step → Type 0 where
  alone : {t : ℕ} {x : Transition} → transition_at s t ≡ Some x → x.event ≡ None → Ready s w x → Possible s w (Alone t)
  pair : {t h o i : ℕ} {x y : Transition} → transition_at s t ≡ Some x → transition_at s h ≡ Some y → x.event ≡ Some o → y.event ≡ Some i → is (event_at s o) goes_out ≡ true → is (event_at s i) (λ z. not (goes_out z)) ≡ true → (x.component ≢ y.component) → Ready s w x → Ready s w y → Carried s w o i → Possible s w (Pair t h)

-- The states that a sheet reaches: its start state, and whatever possible steps lead to.
pub data Reached (s : Sheet) : State → Type 0 where
  at_start : Reached s (start_state s)
  by_step : {w : State} {x : Step} → Reached s w → Possible s w x → Reached s (made_state s w x)

-- ---- answers

-- the number of the refusal of a question
abbrev pub no_question_number : NoQuestion → ℕ
no_question_number f = 13

abbrev pub answered : Sheet → State → ℕ → Option Question → Result Bool NoQuestion
answered s w q None = Err (record { question = q })
answered s w q (Some x) = Ok (truth_in (node_value s w x.node))

-- The truth of a question in a state; where it is missing or blank, that question.
abbrev pub answer_of : Sheet → State → ℕ → Result Bool NoQuestion
answer_of s w q = answered s w q (question_at s q)

-- The mode of a component, or nothing where there is none.
abbrev pub mode_at : Sheet → State → ℕ → Option ℕ
mode_at s w c = option_map (λ x. mode_of w c) (component_at s c)

-- The value of an element, ports included, or nothing where it is missing or blank.
abbrev pub value_at : Sheet → State → ℕ → Option ℤ
value_at s w e = option_map (λ x. slice_index_or (values s w) e (pos 0)) (element_at s e)
