-- A run on two rigs, as far as it has come.
use Rattle.std.proofs.Common.{◌≡◌, Bool, true, ◌&&◌, List, [], ◌∷◌, Decides, sym, ap, ◌∙◌, subst}
use Rattle.std.proofs.lemmas.Bool.{and_from, and_parts}
use Rattle.sheet.specs.Sections.{Sheet}
use Rattle.running.specs.States.{State}
use Rattle.cutting.specs.declared.kinds.RunCall.{RunCall}
use Rattle.cutting.specs.Agreement.{SameAnswers, SameReply, Agree, after_call, after_run}

-- From the states v and o the calls xs have led to w and p, with ys still to come; so far the two agreed as told.
pub record Along (a b : Sheet) (v o w p : State) (xs ys : List RunCall) (told : Bool) : Type 0 where
  pub whole_leads : after_run a w ys ≡ after_run a v xs
  pub pile_leads : after_run b p ys ≡ after_run b o xs
  pub onward : Agree a b v o xs → (told ≡ true) × Agree a b w p ys
  pub backward : told ≡ true → Agree a b w p ys → Agree a b v o xs

module _ (a b a' b' : Sheet) (v o w p : State) (xs : List RunCall) (told : Bool) (ea : a' ≡ a) (eb : b' ≡ b) where
  -- one call more, on rigs whose rows are still a and b
  pub along_call : (w' p' : State) (ys : List RunCall) (x : RunCall) (r : Bool) → Along a b v o w p xs (x ∷ ys) told → Decides r (SameAnswers a' b' w p × SameReply a' b' w p x) → w' ≡ after_call a' w x → p' ≡ after_call b' p x → Along a b v o w' p' xs ys (told && r)
  along_call w' p' ys x r h d ew ep =
      let d₁ : Decides r (SameAnswers a b' w p × SameReply a b' w p x) = subst (λ (s : Sheet). Decides r (SameAnswers s b' w p × SameReply s b' w p x)) ea d in
      let d₂ : Decides r (SameAnswers a b w p × SameReply a b w p x) = subst (λ (s : Sheet). Decides r (SameAnswers a s w p × SameReply a s w p x)) eb d₁ in
      let fw : w' ≡ after_call a w x = ew ∙ ap (λ s. after_call s w x) ea in
      let fp : p' ≡ after_call b p x = ep ∙ ap (λ s. after_call s p x) eb in
      record {
        whole_leads = ap (λ u. after_run a u ys) fw ∙ h.whole_leads;
        pile_leads = ap (λ u. after_run b u ys) fp ∙ h.pile_leads;
        onward = λ all.
            let k = h.onward all in
            (and_from told r k.0 (d₂.1 (k.1.0, k.1.1.0)), subst (λ (u : State). Agree a b u p' ys) (sym fw) (subst (λ (u : State). Agree a b (after_call a w x) u ys) (sym fp) k.1.1.1));
        backward = λ t rest.
            let k = and_parts told r t in
            let q = d₂.0 k.1 in
            h.backward k.0 (q.0, (q.1, subst (λ (u : State). Agree a b u (after_call b p x) ys) fw (subst (λ (u : State). Agree a b w' u ys) fp rest)));
      }

  pub along_end : (r : Bool) → Along a b v o w p xs [] told → Decides r (SameAnswers a' b' w p) → Decides (told && r) (Agree a b v o xs)
  along_end r h d =
      let d₁ : Decides r (SameAnswers a b' w p) = subst (λ (s : Sheet). Decides r (SameAnswers s b' w p)) ea d in
      let d₂ : Decides r (SameAnswers a b w p) = subst (λ (s : Sheet). Decides r (SameAnswers a s w p)) eb d₁ in
      ((λ t. let k = and_parts told r t in h.backward k.0 (d₂.0 k.1)), (λ all. let k = h.onward all in and_from told r k.0 (d₂.1 k.1)))
