-- What a reply says of the state after a step; a state of a sheet under another name.
use Rattle.std.proofs.Common.{◌≡◌, ℕ, Some, None, Ok, Err, Result, refl, arith}
use Rattle.sheet.specs.Sections.{Sheet}
use Rattle.sheet.specs.Tries.{Try}
use Rattle.running.specs.declared.kinds.Step.{Step}
use Rattle.running.specs.declared.kinds.StepRefusal.{StepRefusal}
use Rattle.running.specs.States.{State, StateOf}
use Rattle.running.specs.Steps.{step_fault, made_state, replied, step_reply, unless_refused, step_state}

refused_by : (f : StepRefusal) (t : Try StepRefusal) (y w : State) → ◌≡◌ {A = Result (Unit {0}) StepRefusal} (Err f) (replied t) → unless_refused t y w ≡ w
refused_by f None y w e = absurd (let z : ◌≡◌ {A = ℕ} 0 1 = cc in omega arith)
refused_by f (Some g) y w e = refl

made_by : (t : Try StepRefusal) (y w : State) → ◌≡◌ {A = Result (Unit {0}) StepRefusal} (Ok tt) (replied t) → unless_refused t y w ≡ y
made_by None y w e = refl
made_by (Some g) y w e = absurd (let z : ◌≡◌ {A = ℕ} 0 1 = cc in omega arith)

module _ (s : Sheet) (w : State) (x : Step) where
  -- a refused step leaves the state
  pub refused_stays : (f : StepRefusal) → ◌≡◌ {A = Result (Unit {0}) StepRefusal} (Err f) (step_reply s w x) → step_state s w x ≡ w
  refused_stays f e = refused_by f (step_fault s w x) (made_state s w x) w e

  -- a step that is made gives the state after it
  pub made_goes : ◌≡◌ {A = Result (Unit {0}) StepRefusal} (Ok tt) (step_reply s w x) → step_state s w x ≡ made_state s w x
  made_goes e = made_by (step_fault s w x) (made_state s w x) w e

-- a state of a sheet, where sheet and state are known under other names
pub state_as : (s r : Sheet) (w v : State) → r ≡ s → v ≡ w → StateOf s w → StateOf r v
state_as s r w v e f o = rw (e, f) o
