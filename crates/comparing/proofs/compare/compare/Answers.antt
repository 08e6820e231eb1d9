use Rattle.std.proofs.Common.{List, sym, ap, ◌∙◌, subst}
use Rattle.std.proofs.lemmas.List.{drop_more, drop_all}
use Rattle.running.specs.States.{State, start_state}
use Rattle.cutting.specs.declared.kinds.RunCall.{RunCall}
use Rattle.cutting.specs.declared.kinds.RunCall.TheVariants.{Home}
use Rattle.cutting.specs.Agreement.{Agree, Pile}
use Rattle.cutting.specs.Laws.{Alike}
use Rattle.cutting.proofs.PilesAgree.{whole_and_pile_are_alike}
use Rattle.comparing.proofs.Runs.{Along, along_call, along_end}
use Rattle.comparing.proofs.compare.compare.Goals as goal

pub loop-call-preserved : goal.loop-call-preserved
loop-call-preserved g c =
    let inv = c.loop-call.invariant in
    let t = c.is_same_turn-agreed.ensures in
    let a = g.W.Rig.rows c.args.whole.now in
    let b = g.P.Rig.rows c.args.pile.now in
    let v = (g.W.Rig.means c.args.whole.now).state in
    let o = (g.P.Rig.means c.args.pile.now).state in
    let w = (g.W.Rig.means c.loop-call.whole).state in
    let p = (g.P.Rig.means c.loop-call.pile).state in
    let xs = c.args.calls.now in
    let along : Along a b v o w p xs _ c.loop-call.agreed = subst (λ (ys : List RunCall). Along a b v o w p xs ys c.loop-call.agreed) (drop_more xs c.loop-call.call-index Home c.loop-call-test.true) inv.4 in
    (t.pile_called.still_fits, t.whole_called.still_fits, t.pile_called.rows_kept ∙ inv.2, t.whole_called.rows_kept ∙ inv.3, along_call a b _ _ v o w p xs c.loop-call.agreed inv.3 inv.2 _ _ _ _ c.is_same_turn-agreed.result along t.alike (ap (λ m. m.state) t.whole_called.moved) (ap (λ m. m.state) t.pile_called.moved))

pub returns : goal.returns
returns g c =
    let inv = c.loop-call.invariant in
    let a = g.W.Rig.rows c.args.whole.now in
    let b = g.P.Rig.rows c.args.pile.now in
    let v = (g.W.Rig.means c.args.whole.now).state in
    let o = (g.P.Rig.means c.args.pile.now).state in
    let w = (g.W.Rig.means c.loop-call.whole).state in
    let p = (g.P.Rig.means c.loop-call.pile).state in
    let xs = c.args.calls.now in
    let along = subst (λ (ys : List RunCall). Along a b v o w p xs ys c.loop-call.agreed) (drop_all c.loop-call.call-index xs c.loop-call-test.false) inv.4 in
    let agree = along_end a b (g.W.Rig.rows c.loop-call.whole) (g.P.Rig.rows c.loop-call.pile) v o w p xs c.loop-call.agreed inv.3 inv.2 c.tell_the_same-last.result along c.tell_the_same-last.ensures in
    let accepts = (g.met.W.Rig.sound c.args.whole.now c.requires.whole).accepts in
    let alike : Pile a b → Alike a b = whole_and_pile_are_alike a b accepts in
    record {
      agreed = agree;
      pile_ran = record { still_fits = inv.0; rows_kept = inv.2; moved = λ i. record { state = along.pile_leads i } };
      whole_ran = record { still_fits = inv.1; rows_kept = inv.3; moved = λ i. record { state = along.whole_leads i } };
      whole_and_pile_are_alike = alike;
      agree_from_their_starts = λ pile ew ep. agree.1 (subst (λ (u : State). Agree a b u o xs) (sym ew) (subst (λ (u : State). Agree a b (start_state a) u xs) (sym ep) ((alike pile).agree xs)));
    }
