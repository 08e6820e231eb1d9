-- A node gives the same on a sheet and on its cut, where all that it rests on is kept.
use Rattle.std.proofs.Common.{◌≡◌, ℕ, true, eqb, List, get_or, ℤ, pos, Some, None, Option, sym, refl, ap, ◌∙◌}
use Rattle.std.proofs.lemmas.Bool.{and_from, eq-eqb}
use Rattle.sheet.specs.declared.rows.Node.{Node}
use Rattle.sheet.specs.declared.rows.Target.TheVariants.{Element as ThatElement, Mode as ThatMode}
use Rattle.sheet.specs.Accept.{accepted}
use Rattle.sheet.specs.Lookup.{node_at}
use Rattle.sheet.specs.Resting.{hits}
use Rattle.sheet.specs.Sections.{Sheet}
use Rattle.sheet.specs.Tables.{grow}
use Rattle.sheet.proofs.Tables.{Agrees, cell_same}
use Rattle.running.specs.declared.kinds.Worth.{Worth}
use Rattle.running.specs.States.{State, mode_of}
use Rattle.running.specs.Values.{nothing, evaluated_if, node_cell, node_over}
use Rattle.running.proofs.SameNodes.{evaluated_same}
use Rattle.cutting.specs.declared.kinds.Thing.TheVariants.{Element as KeptElement, Mode as KeptMode}
use Rattle.cutting.specs.CutSheet.{is_used, cut_sheet}
use Rattle.cutting.specs.Kept.{Kept, Chosen}
use Rattle.cutting.proofs.CutRows.{passing, node_cut}
use Rattle.cutting.proofs.KeptRows.{node_kept}
use Rattle.cutting.proofs.Restings.{rests_hit, rests_itself}
use Rattle.cutting.proofs.UsedNodes.{RestsOnKept, kept_operand}

module _ (s : Sheet) (a : accepted s ≡ true) (k : Kept) (chosen : Chosen) (v w : State) (xs ys : List ℤ) (elements_same : (e : ℕ) → k (KeptElement e) ≡ true → get_or xs e (pos 0) ≡ get_or ys e (pos 0)) (modes_same : (c m : ℕ) → k (KeptMode c m) ≡ true → eqb (mode_of v c) m ≡ eqb (mode_of w c) m) where
  -- the tables of the nodes of both sheets
  abbrev ones : ℕ → List Worth → Worth
  ones = node_cell s v xs

  abbrev others : ℕ → List Worth → Worth
  others = node_cell (cut_sheet k chosen s) w ys

  node_by : (n : ℕ) (o : Option Node) → node_at s n ≡ o → RestsOnKept k chosen s n → Agrees (RestsOnKept k chosen s) ones others nothing n → evaluated_if v xs (grow ones n) o ≡ evaluated_if w ys (grow others n) (node_at (cut_sheet k chosen s) n)
  node_by n None e g same = sym (ap (evaluated_if w ys (grow others n)) (node_cut k chosen s n ∙ ap (passing (λ x. is_used k chosen s n)) e))
  node_by n (Some x) e g same =
      evaluated_same v w xs ys (grow ones n) (grow others n) x
      (λ d q. elements_same d (g.elements d (rests_hit s a (ThatElement d) n x e (ap (hits (ThatElement d) n) q ∙ eq-eqb d d refl))))
      (λ c m q. modes_same c m (g.modes c m (rests_hit s a (ThatMode c m) n x e (ap (hits (ThatMode c m) n) q ∙ and_from (eqb c c) (eqb m m) (eq-eqb c c refl) (eq-eqb m m refl)))))
      (λ o m. same o (kept_operand k chosen s a n o x e m g))
      ∙ sym (ap (evaluated_if w ys (grow others n)) (node_kept k chosen s n (g.nodes n (rests_itself s a n x e)) ∙ e))

  pub node_over_shown : (n : ℕ) → RestsOnKept k chosen s n → node_over s v xs n ≡ node_over (cut_sheet k chosen s) w ys n
  node_over_shown n g = cell_same (RestsOnKept k chosen s) ones others nothing (λ n g same. node_by n (node_at s n) refl g same) n g
