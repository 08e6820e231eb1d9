use Rattle.std.proofs.Common.{◌≡◌, Some, None, Ok, Option, ok_or}
use Rattle.running.specs.declared.kinds.StepRefusal.{StepRefusal}
use Rattle.running.specs.declared.kinds.StepRefusal.TheVariants.{NoTransition}
use Rattle.sheet.specs.declared.rows.Transition.{Transition}
use Rattle.sheet.specs.Lookup.{transition_at}
use Rattle.view.proofs.checks.Checks.check_step.Goals as goal

-- a transition that was found is there
found : (o : Option Transition) (f : StepRefusal) (x : Transition) → Ok x ≡ ok_or o f → o ≡ Some x
found None f x e = cc
found (Some y) f x e = cc

pub returns-in_ok-x-in-Alone : goal.returns-in_ok-x-in-Alone
returns-in_ok-x-in-Alone g c =
    let s = g.V.View.rows c.args.self.now.view.now in
    let t = c.in-Alone.t in
    let here : transition_at s t ≡ Some c.in_ok-x-in-Alone.x = found (transition_at s t) (NoTransition t) c.in_ok-x-in-Alone.x c.in_ok-x-in-Alone.ensures in
    rw (c.in-Alone.is, here) c.check_alone.ensures

pub returns-in_ok-y-in-Pair : goal.returns-in_ok-y-in-Pair
returns-in_ok-y-in-Pair g c =
    let s = g.V.View.rows c.args.self.now.view.now in
    let t = c.in-Pair.t in
    let h = c.in-Pair.h in
    let sender : transition_at s t ≡ Some c.in_ok-x-in-Pair.x = found (transition_at s t) (NoTransition t) c.in_ok-x-in-Pair.x c.in_ok-x-in-Pair.ensures in
    let hearer : transition_at s h ≡ Some c.in_ok-y-in-Pair.y = found (transition_at s h) (NoTransition h) c.in_ok-y-in-Pair.y c.in_ok-y-in-Pair.ensures in
    rw (c.in-Pair.is, sender, hearer) c.check_pair.ensures
