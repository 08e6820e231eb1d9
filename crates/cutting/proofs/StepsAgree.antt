-- Every step, made or refused, leads a sheet and its cut to states of which the one shows the other.
use Rattle.std.proofs.Common.{◌≡◌, ℕ, true, false, ◌⊎◌, List, [], ◌∷◌, ◌++◌, Some, None, sym, refl, ap, ◌∙◌, inl, inr, ⊎_elim}
use Rattle.std.proofs.lemmas.Bool.{true≢false, cases_Bool}
use Rattle.sheet.specs.Accept.{accepted}
use Rattle.sheet.specs.Sections.{Sheet}
use Rattle.sheet.specs.Tries.{Try, must, or_else, first_fault}
use Rattle.sheet.proofs.Firsts.{first_fails}
use Rattle.running.specs.declared.kinds.Step.{Step}
use Rattle.running.specs.declared.kinds.StepRefusal.{StepRefusal}
use Rattle.running.specs.declared.kinds.StepRefusal.TheVariants.{NoTransition, NoStep, OtherMode, NotConnected, GuardFalse}
use Rattle.running.specs.States.{State}
use Rattle.running.specs.Steps.{parts, leader, is_there, well_made, in_from_mode, connected, guard_holds, each_part, step_fault, made_state, replied, step_reply, unless_refused, step_state}
use Rattle.running.proofs.Replies.{unrefused_possible}
use Rattle.cutting.specs.Agreement.{IsKeptTransition, Every, KeptStep}
use Rattle.cutting.specs.CutSheet.{shown, cut_sheet}
use Rattle.cutting.specs.Kept.{Kept, Chosen, Closed}
use Rattle.cutting.proofs.DroppedSteps.{made_dropped}
use Rattle.cutting.proofs.KeptSteps.{made_kept}
use Rattle.cutting.proofs.RepliesAgree.{step_tries_same}

-- ---- a step names only transitions that are there, or is refused for one that is not

module _ (s : Sheet) where
  -- some transition of the list is not there
  record Missing (ts : List ℕ) : Type 0 where
    refusal : StepRefusal
    refused : first_fault (each_part (is_there s) NoTransition ts) ≡ Some refusal
    not_all : Every (IsKeptTransition s) ts → ⊥

  missing_later : (t : ℕ) (ts : List ℕ) → is_there s t ≡ true → Missing ts → Missing (t ∷ ts)
  missing_later t ts h m =
      record {
        refusal = m.refusal;
        refused = ap (λ b. or_else (must b (NoTransition t)) (first_fault (each_part (is_there s) NoTransition ts))) h ∙ m.refused;
        not_all = λ all. m.not_all all.1;
      }

  missing_first : (t : ℕ) (ts : List ℕ) → is_there s t ≡ false → Missing (t ∷ ts)
  missing_first t ts h =
      record {
        refusal = NoTransition t;
        refused = ap (λ b. or_else (must b (NoTransition t)) (first_fault (each_part (is_there s) NoTransition ts))) h;
        not_all = λ all. true≢false (sym all.0 ∙ h);
      }

  all_or_missing : (ts : List ℕ) → Every (IsKeptTransition s) ts ⊎ Missing ts
  all_or_missing [] = inl tt
  all_or_missing (t ∷ ts) =
      ⊎_elim
      (λ (h : is_there s t ≡ true).
      ⊎_elim
      (λ (all : Every (IsKeptTransition s) ts). inl (h, all))
      (λ (m : Missing ts). inr (missing_later t ts h m))
      (all_or_missing ts))
      (λ (h : is_there s t ≡ false). inr (missing_first t ts h))
      (cases_Bool (is_there s t))

  missing_refused : (w : State) (x : Step) (m : Missing (parts x)) → step_fault s w x ≡ Some m.refusal
  missing_refused w x m =
      first_fails (each_part (is_there s) NoTransition (parts x))
      (must (well_made s x) (NoStep (leader x))
      ∷ (each_part (in_from_mode s w) OtherMode (parts x)
      ++ (must (connected s w x) (NotConnected (leader x))
      ∷ each_part (guard_holds s w) GuardFalse (parts x))))
      m.refusal m.refused

module _ (s : Sheet) (a : accepted s ≡ true) (k : Kept) (chosen : Chosen) (closed : Closed s chosen k) (w : State) (x : Step) where
  fault_shown : KeptStep (cut_sheet k chosen s) x → step_fault s w x ≡ step_fault (cut_sheet k chosen s) (shown k w) x
  fault_shown kept = ap first_fault (step_tries_same s a k chosen closed w x kept)

  -- The reply of the cut to a step that names only transitions that it kept is that of the sheet.
  pub reply_shown : KeptStep (cut_sheet k chosen s) x → step_reply s w x ≡ step_reply (cut_sheet k chosen s) (shown k w) x
  reply_shown kept = ap replied (fault_shown kept)

  after_kept : (v : Try StepRefusal) → KeptStep (cut_sheet k chosen s) x → shown k (unless_refused v (made_state s w x) w) ≡ unless_refused v (made_state (cut_sheet k chosen s) (shown k w) x) (shown k w)
  after_kept None kept = made_kept s a k chosen closed w x kept
  after_kept (Some f) kept = refl

  after_dropped : (v : Try StepRefusal) → step_fault s w x ≡ v → (KeptStep (cut_sheet k chosen s) x → ⊥) → shown k (unless_refused v (made_state s w x) w) ≡ shown k w
  after_dropped None e not-kept = made_dropped s chosen k closed w (unrefused_possible s w x e) not-kept
  after_dropped (Some f) e not-kept = refl

  -- The cut's state after any step shows that of the sheet.
  pub step_shown : shown k (step_state s w x) ≡ step_state (cut_sheet k chosen s) (shown k w) x
  step_shown =
      let after : Try StepRefusal → State = λ v. unless_refused v (made_state (cut_sheet k chosen s) (shown k w) x) (shown k w) in
      ⊎_elim
      (λ (kept : KeptStep (cut_sheet k chosen s) x). after_kept (step_fault s w x) kept ∙ ap after (fault_shown kept))
      (λ (m : Missing (cut_sheet k chosen s) (parts x)). after_dropped (step_fault s w x) refl m.not_all ∙ sym (ap after (missing_refused (cut_sheet k chosen s) (shown k w) x m)))
      (all_or_missing (cut_sheet k chosen s) (parts x))
