-- One sheet runs as another does: what a cut has of the sheet below, and so what a pile has of the whole.
use Rattle.std.proofs.Common.{◌≡◌, ℕ, true, None, Ok, sym, refl, ap, ◌∙◌}
use Rattle.std.proofs.lemmas.Bool.{cond-true}
use Rattle.sheet.specs.Accept.{accepted}
use Rattle.sheet.specs.Lookup.{element_at, transition_at, question_at}
use Rattle.sheet.specs.Sections.{Sheet}
use Rattle.running.specs.declared.kinds.Step.{Step}
use Rattle.running.specs.States.{State, start_state}
use Rattle.running.specs.Steps.{parts, step_reply, step_state, answered, answer_of, value_at}
use Rattle.running.specs.Values.{truth_in}
use Rattle.cutting.specs.declared.kinds.Thing.TheVariants.{Element as KeptElement}
use Rattle.cutting.specs.Agreement.{IsKeptQuestion, IsKeptTransition, IsKeptElement, KeptStep, SameAnswers}
use Rattle.cutting.specs.CutSheet.{shown, cut_sheet}
use Rattle.cutting.specs.Kept.{Kept, Chosen, Closed}
use Rattle.cutting.proofs.ElementsAgree.{node_value_shown, value_shown}
use Rattle.cutting.proofs.KeptRows.{element_was, question_was, kept_below}
use Rattle.cutting.proofs.Passings.{found, found_some}
use Rattle.cutting.proofs.RepliesAgree.{every_map}
use Rattle.cutting.proofs.StatesAgree.{start_shown}
use Rattle.cutting.proofs.StepsAgree.{reply_shown, step_shown}
use Rattle.cutting.proofs.UsedNodes.{question_rests_on_kept}

-- Sheet b runs as sheet a does, where `show` gives b's state for a's.
pub record Sim (a b : Sheet) (show : State → State) : Type 0 where
  pub start : show (start_state a) ≡ start_state b
  -- what b kept, a has
  pub kept_step : (x : Step) → KeptStep b x → KeptStep a x
  pub kept_question : (q : ℕ) → IsKeptQuestion b q → IsKeptQuestion a q
  pub kept_element : (e : ℕ) → IsKeptElement b e → IsKeptElement a e
  -- the same replies to steps that name only transitions that b kept, and the same answers and values
  pub reply : (w : State) (x : Step) → KeptStep b x → step_reply a w x ≡ step_reply b (show w) x
  pub same : (w : State) → SameAnswers a b w (show w)
  -- any step, made or refused
  pub next : (w : State) (x : Step) → show (step_state a w x) ≡ step_state b (show w) x

pub sim_same : (a : Sheet) → Sim a a (λ w. w)
sim_same a =
    record {
      start = refl;
      kept_step = λ x h. h;
      kept_question = λ q h. h;
      kept_element = λ e h. h;
      reply = λ w x h. refl;
      same = λ w. record { answers = λ q h. refl; values = λ e h. refl };
      next = λ w x. refl;
    }

pub sim_join : (a b c : Sheet) (f g : State → State) → Sim a b f → Sim b c g → Sim a c (λ w. g (f w))
sim_join a b c f g s t =
    record {
      start = ap g s.start ∙ t.start;
      kept_step = λ x h. s.kept_step x (t.kept_step x h);
      kept_question = λ q h. s.kept_question q (t.kept_question q h);
      kept_element = λ e h. s.kept_element e (t.kept_element e h);
      reply = λ w x h. s.reply w x (t.kept_step x h) ∙ t.reply (f w) x h;
      same = λ w.
          record {
            answers = λ q h. (s.same w).answers q (t.kept_question q h) ∙ (t.same (f w)).answers q h;
            values = λ e h. (s.same w).values e (t.kept_element e h) ∙ (t.same (f w)).values e h;
          };
      next = λ w x. ap g (s.next w x) ∙ t.next (f w) x;
    }

-- ---- one cut

module _ (s : Sheet) (a : accepted s ≡ true) (k : Kept) (chosen : Chosen) (closed : Closed s chosen k) where
  transition_below : (t : ℕ) → IsKeptTransition (cut_sheet k chosen s) t → IsKeptTransition s t
  transition_below t h = let l = kept_below k chosen s t h in found_some (transition_at s t) l.below l.stands

  question_below : (q : ℕ) → IsKeptQuestion (cut_sheet k chosen s) q → IsKeptQuestion s q
  question_below q h = let x = found (question_at (cut_sheet k chosen s) q) h in found_some (question_at s q) x.0 (question_was k chosen s q x.0 x.1).0

  element_below : (e : ℕ) → IsKeptElement (cut_sheet k chosen s) e → IsKeptElement s e × (k (KeptElement e) ≡ true)
  element_below e h =
      let x = found (element_at (cut_sheet k chosen s) e) h in
      let p = element_was k chosen s e x.0 x.1 in
      (found_some (element_at s e) x.0 p.0, p.1)

  -- The answer to a question that the cut kept.
  pub answer_shown : (w : State) (q : ℕ) → IsKeptQuestion (cut_sheet k chosen s) q → answer_of s w q ≡ answer_of (cut_sheet k chosen s) (shown k w) q
  answer_shown w q h =
      let x = found (question_at (cut_sheet k chosen s) q) h in
      let p = question_was k chosen s q x.0 x.1 in
      ap (answered s w q) p.0
      ∙ ap (λ v. Ok (truth_in v)) (node_value_shown s a k chosen closed w x.0.node (question_rests_on_kept k chosen s a closed q x.0 p.0 p.1))
      ∙ sym (ap (answered (cut_sheet k chosen s) (shown k w) q) x.1)

  -- The value of an element that the cut kept.
  pub value_kept : (w : State) (e : ℕ) → IsKeptElement (cut_sheet k chosen s) e → value_at s w e ≡ value_at (cut_sheet k chosen s) (shown k w) e
  value_kept w e h = sym (value_shown s a k chosen closed w e ∙ cond-true (k (KeptElement e)) (value_at s w e) None (element_below e h).1)

  pub sim_cut : Sim s (cut_sheet k chosen s) (shown k)
  sim_cut =
      record {
        start = start_shown s k chosen;
        kept_step = λ x h. every_map transition_below (parts x) h;
        kept_question = question_below;
        kept_element = λ e h. (element_below e h).0;
        reply = reply_shown s a k chosen closed;
        same = λ w. record { answers = answer_shown w; values = value_kept w };
        next = step_shown s a k chosen closed;
      }
