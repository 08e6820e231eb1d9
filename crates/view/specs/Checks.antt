-- The checks of a step whose transitions are there, and what a step changes, one thing at a time.
use Rattle.std.specs.Prelude.{ℕ, Bool, cond, not, ◌&&◌, List, [], ◌∷◌, ℤ, is_some, Some, None, ok_or, Option, Result, ◌==◌, slice_index_or, slice_set}
use Rattle.sheet.specs.declared.rows.Direction.{Direction}
use Rattle.sheet.specs.declared.rows.Direction.TheVariants.{Out, In}
use Rattle.sheet.specs.declared.rows.Element.{Element}
use Rattle.sheet.specs.declared.rows.Setting.{Setting}
use Rattle.sheet.specs.declared.rows.Transition.{Transition}
use Rattle.sheet.specs.Lookup.{element_at, transition_at, is}
use Rattle.sheet.specs.Rules.{is_port}
use Rattle.sheet.specs.Sections.{Sheet, rows, connections}
use Rattle.sheet.specs.Tries.{Try, must, first_fault}
use Rattle.running.specs.declared.kinds.Worth.{Worth}
use Rattle.running.specs.declared.kinds.StepRefusal.{StepRefusal}
use Rattle.running.specs.declared.kinds.StepRefusal.TheVariants.{NoTransition, NoStep, OtherMode, NotConnected, GuardFalse}
use Rattle.running.specs.States.{State, mode_of}
use Rattle.running.specs.Steps.{sends, hears, any_carries, takes_part}
use Rattle.running.specs.Values.{bring, number_in, truth_in, nothing, node_value}

-- a transition, or that it is missing or blank
abbrev pub transition_or_refusal : Sheet → ℕ → Result Transition StepRefusal
transition_or_refusal s t = ok_or (transition_at s t) (NoTransition t)

-- there is an event, and it goes that way
abbrev pub goes : Sheet → Direction → Option ℕ → Bool
goes s Out v = sends s v
goes s In v = hears s v

abbrev pub is_in_from_mode : State → Transition → Bool
is_in_from_mode w x = mode_of w x.component == x.from

abbrev pub has_true_guard : Sheet → State → Transition → Bool
has_true_guard s w x = truth_in (node_value s w x.guard)

-- the checks of transition t alone, which is x
abbrev pub alone_fault : Sheet → State → ℕ → Transition → Try StepRefusal
alone_fault s w t x =
    first_fault
    (must (not (is_some x.event)) (NoStep t)
    ∷ must (is_in_from_mode w x) (OtherMode t)
    ∷ must (has_true_guard s w x) (GuardFalse t)
    ∷ [])

abbrev pub are_a_pair : Sheet → Transition → Transition → Bool
are_a_pair s x y = sends s x.event && (hears s y.event && not (x.component == y.component))

abbrev pub is_carried : Sheet → State → Option ℕ → Option ℕ → Bool
is_carried s w v u = is v (λ o. is u (λ i. any_carries w o i (rows s connections)))

-- the checks of a sender t, which is x, and a hearer h, which is y
abbrev pub pair_fault : Sheet → State → (t h : ℕ) → (x y : Transition) → Try StepRefusal
pair_fault s w t h x y =
    first_fault
    (must (are_a_pair s x y) (NoStep t)
    ∷ must (is_in_from_mode w x) (OtherMode t)
    ∷ must (is_in_from_mode w y) (OtherMode h)
    ∷ must (is_carried s w x.event y.event) (NotConnected t)
    ∷ must (has_true_guard s w x) (GuardFalse t)
    ∷ must (has_true_guard s w y) (GuardFalse h)
    ∷ [])

-- the rest value of an element that is there and held
abbrev pub rest_held : Option Element → Option ℤ
rest_held None = None
rest_held (Some x) = cond (is_port x) None (Some x.rest)

-- What a setting changes, if its transition takes part: an element, and the value that it gets from what the nodes give.
abbrev pub new_value : (nodes : List Worth) → Setting → Option Element → Option (ℕ × ℤ)
new_value t x None = None
new_value t x (Some e) = Some (x.element, bring e.lowest e.highest (number_in (slice_index_or t x.node nothing)))

abbrev pub change_by : Sheet → (nodes : List Worth) → (parts : List ℕ) → Option Setting → Option (ℕ × ℤ)
change_by s t ts None = None
change_by s t ts (Some x) = cond (takes_part x.transition ts) (new_value t x (element_at s x.element)) None

-- values after a change
abbrev pub changed : Option (ℕ × ℤ) → List ℤ → List ℤ
changed None vs = vs
changed (Some p) vs = slice_set vs p.0 p.1
