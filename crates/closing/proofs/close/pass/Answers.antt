use Rattle.std.proofs.Common.{arith}
use Rattle.std.proofs.lemmas.Bool.{ltb-true, ltb-false}
use Rattle.marking.specs.Passes.{Passed, EveryRow}
use Rattle.marking.proofs.Walks.{sections_none, sections_more, sections_all, pass_same}
use Rattle.closing.proofs.close.pass.Goals as goal

pub loop-section-init : goal.loop-section-init
loop-section-init g c = sections_none (g.V.View.rows c.args.view.now) c.args.marks.now.table

pub loop-section-preserved : goal.loop-section-preserved
loop-section-preserved g c =
    let s = g.V.View.rows c.args.view.now in
    sections_more s c.loop-section.section c.args.marks.now.table c.loop-section.marks.table c.loop-section.invariant c.apply_section.new.marks.table c.apply_section.ensures

pub returns : goal.returns
returns g c =
    let s = g.V.View.rows c.args.view.now in
    let a = c.args.marks.now.table in
    let b = c.loop-section.marks.table in
    let passed : Passed s EveryRow a b = sections_all s c.loop-section.section a b c.loop-section.invariant c.loop-section-test.false in
    record {
      passed = passed;
      new = λ h. omega (arith, ltb-true c.unmarked.result c.unmarked-before.result h, c.unmarked.ensures, c.unmarked-before.ensures);
      same = λ h. pass_same s a b passed (omega (arith, ltb-false c.unmarked.result c.unmarked-before.result h, c.unmarked.ensures, c.unmarked-before.ensures));
    }
