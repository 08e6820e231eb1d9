use Rattle.std.proofs.Common.{◌≡◌, ◌+◌, Bool, List, Some, None, Err, Option, Result, sym, refl, ap, ◌∙◌, subst, arith, rules}
use Rattle.std.proofs.lemmas.Bool.{false≢true}
use Rattle.std.proofs.lemmas.Result.{err_from_is_err_and}
use Rattle.std.specs.Option.{ok_or}
use Rattle.std.specs.Result.{is_ok, MatchResult}
use Rattle.cutting.specs.declared.kinds.NoCut.{NoCut}
use Rattle.cutting.specs.declared.kinds.NoCut.TheVariants.{NoQuestion}
use Rattle.cutting.specs.CutSheet.{cut_fault}
use Rattle.marking.specs.Passes.{Asked}
use Rattle.marking.proofs.Questions.{AskedBelow, asked_none, asked_not, asked_more, asked_fails, none_asked, asked_all}
use Rattle.closing.proofs.close.mark_questions.Goals as goal
use Rattle.closing.proofs.close.mark_questions.Goals.{then-is_chosen+in_ok-x, else-is_chosen}

pub returns-then-set-eq0 : goal.returns-then-set-eq0
returns-then-set-eq0 g c = none_asked (g.V.View.rows c.args.view.now) c.args.set c.if-set-eq0.true

pub loop-q-init : goal.loop-q-init
loop-q-init g c = asked_none (g.V.View.rows c.args.view.now) c.args.set c.args.marks.now.table

-- an option that was refused holds nothing
refused : {X : Type 0} (o : Option X) (e f : NoCut) → ok_or o e ≡ Err f → (o ≡ None) × (e ≡ f)
refused None e f h = (refl, cc)
refused (Some x) e f h = absurd (false≢true (sym (ap is_ok h)))

pub returns-in_err-x : goal.returns-in_err-x
returns-in_err-x g c =
    let s = g.V.View.rows c.args.view.now in
    let q = c.loop-q.q in
    let p = err_from_is_err_and c.from_residual.result c.from_residual.ensures.1 in
    let r = refused c.row.result (NoQuestion q) c.in_err-x.field-0.0 (sym c.ok_or.ensures.value ∙ c.in_err-x.was) in
    let fault = asked_fails s c.args.set c.args.marks.now.table c.loop-q.marks.table q c.loop-q-test.true c.if-set-eq0.false (sym c.if-is_chosen.ensures) (sym c.row.ensures ∙ r.0) c.loop-q.invariant in
    subst (λ (x : Result Unit NoCut). MatchResult x (λ _. Asked s c.args.set c.args.marks.now.table c.loop-q.marks.table) (λ f. cut_fault s c.args.set ≡ Some f)) (sym (p.1 ∙ ap Err p.2)) (fault ∙ ap Some r.1)

pub loop-q-preserved : goal.loop-q-preserved
loop-q-preserved g c =
    let s = g.V.View.rows c.args.view.now in
    let set = c.args.set in
    let q = c.loop-q.q in
    let a = c.args.marks.now.table in
    let b = c.loop-q.marks.table in
    elim c.if-is_chosen.branch [
      | then-is_chosen+in_ok-x w ↦ subst (λ (t : List Bool). AskedBelow s set a t (q + 1)) (sym (ap (λ x. x.table) w.marks-is ∙ w.mark.ensures))
          (asked_more s set (g.met.V.View.accepts c.args.view.now) a b q w.in_ok-x.x (search rules) (sym w.if-is_chosen.ensures) (search rules) c.loop-q.invariant)
      | else-is_chosen w ↦ subst (λ (t : List Bool). AskedBelow s set a t (q + 1)) (sym (ap (λ x. x.table) w.marks-is)) (asked_not s set a b q (sym w.if-is_chosen.ensures) c.loop-q.invariant)
    ]

pub returns : goal.returns
returns g c =
    let s = g.V.View.rows c.args.view.now in
    asked_all s c.args.set c.args.marks.now.table c.loop-q.marks.table c.loop-q.q (search rules) c.if-set-eq0.false (omega arith) c.loop-q.invariant
