-- A whole accepted sheet and every pile of cuts on it agree, in every list of calls and on what is true somewhere.
use Rattle.std.proofs.Common.{◌≡◌, ℕ, true, List, [], ◌∷◌, sym, ap, ◌∙◌, subst}
use Rattle.sheet.specs.Accept.{accepted}
use Rattle.sheet.specs.Sections.{Sheet}
use Rattle.running.specs.States.{State, start_state}
use Rattle.running.specs.Steps.{made_state, step_reply, step_state, Reached, at_start, by_step}
use Rattle.running.proofs.Replies.{possible_made, step_stays_reached}
use Rattle.cutting.specs.declared.kinds.RunCall.{RunCall}
use Rattle.cutting.specs.declared.kinds.RunCall.TheVariants.{Home, Step as MakeStep, Answer}
use Rattle.cutting.specs.Agreement.{Pile, uncut, cut_above, IsKeptQuestion, SameAnswers, SameReply, after_call, Agree, TrueSomewhere}
use Rattle.cutting.specs.CutSheet.{shown, cut_sheet}
use Rattle.cutting.specs.Laws.{Alike, WholeAndPileAreAlike}
use Rattle.cutting.proofs.AcceptedCuts.{piles_are_accepted}
use Rattle.cutting.proofs.Simulation.{Sim, sim_same, sim_join, sim_cut}

-- ---- a sheet that runs as another does

module _ (a b : Sheet) (show : State → State) (sim : Sim a b show) where
  same_answers : (w p : State) → show w ≡ p → SameAnswers a b w p
  same_answers w p e = subst (SameAnswers a b w) e (sim.same w)

  same_reply : (w p : State) (x : RunCall) → show w ≡ p → SameReply a b w p x
  same_reply w p Home e = tt
  same_reply w p (MakeStep x) e = λ kept. sim.reply w x kept ∙ ap (λ p. step_reply b p x) e
  same_reply w p (Answer q) e = λ kept. (same_answers w p e).answers q kept

  same_after : (w p : State) (x : RunCall) → show w ≡ p → show (after_call a w x) ≡ after_call b p x
  same_after w p Home e = sim.start
  same_after w p (MakeStep x) e = sim.next w x ∙ ap (λ p. step_state b p x) e
  same_after w p (Answer q) e = e

  -- Both agree throughout every list of calls, from any state and the one that is shown for it.
  pub agree : (w p : State) → show w ≡ p → (xs : List RunCall) → Agree a b w p xs
  agree w p e [] = same_answers w p e
  agree w p e (x ∷ xs) = (same_answers w p e, (same_reply w p x e, agree (after_call a w x) (after_call b p x) (same_after w p x e) xs))

  -- ---- reached states

  -- a state that a reaches is shown as one that b reaches
  pub reached_shown : {w : State} → Reached a w → Reached b (show w)
  reached_shown at_start = subst (Reached b) (sym sim.start) at_start
  reached_shown (by_step {w = w} {x = x} r p) =
      let same : step_state b (show w) x ≡ show (made_state a w x) = sym (sim.next w x) ∙ ap show (possible_made a w x p) in
      subst (Reached b) same (step_stays_reached b (show w) x (reached_shown r))

  -- a reaches a state that is shown as p
  pub record ReachedBelow (p : State) : Type 0 where
    pub below : State
    pub reached : Reached a below
    pub shows : show below ≡ p

  -- and b reaches no others
  pub reached_below : {p : State} → Reached b p → ReachedBelow p
  reached_below at_start = record { below = start_state a; reached = at_start; shows = sim.start }
  reached_below (by_step {w = p} {x = x} r q) =
      let l = reached_below r in
      let w = l.below in
      record {
        below = step_state a w x;
        reached = step_stays_reached a w x l.reached;
        shows = sim.next w x ∙ ap (λ p. step_state b p x) l.shows ∙ possible_made b p x q;
      }

  pub true_above : (q : ℕ) → IsKeptQuestion b q → TrueSomewhere a q → TrueSomewhere b q
  true_above q kept t = record { state = show t.state; reached = reached_shown t.reached; true_there = sym ((sim.same t.state).answers q kept) ∙ t.true_there }

  pub true_below : (q : ℕ) → IsKeptQuestion b q → TrueSomewhere b q → TrueSomewhere a q
  true_below q kept t =
      let l = reached_below t.reached in
      record { state = l.below; reached = l.reached; true_there = (same_answers l.below t.state l.shows).answers q kept ∙ t.true_there }

  pub alike : accepted b ≡ true → Alike a b
  alike accepts = record { accepts = accepts; agree = agree (start_state a) (start_state b) sim.start; on_the_pile = true_above; on_the_whole = true_below }

-- ---- piles

-- Sheet b runs as a does, for some way to show its states.
pub record RunsAs (a b : Sheet) : Type 0 where
  pub show : State → State
  pub sim : Sim a b show

module _ (a : Sheet) (accepts : accepted a ≡ true) where
  pub pile_sim : {b : Sheet} → Pile a b → RunsAs a b
  pile_sim uncut = record { show = λ w. w; sim = sim_same a }
  pile_sim (cut_above {b = b} {chosen = chosen} {k = k} pile smallest) =
      let r = pile_sim pile in
      record {
        show = λ w. shown k (r.show w);
        sim = sim_join a b (cut_sheet k chosen b) r.show (shown k) r.sim (sim_cut b (piles_are_accepted pile accepts) k chosen smallest.closed);
      }

pub whole_and_pile_are_alike : WholeAndPileAreAlike
whole_and_pile_are_alike a b accepts pile = let r = pile_sim a accepts pile in alike a b r.show r.sim (piles_are_accepted pile accepts)
