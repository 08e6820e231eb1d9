use Rattle.std.proofs.Common.{◌≡◌, ℕ, ◌-◌, ◌<◌, length, take, ap, ◌∙◌, arith}
use Rattle.std.proofs.lemmas.List.{length-set, take_more_set}
use Rattle.layout.specs.Laid.{rows_of}
use Rattle.sheet.specs.Resting.{mark, marks}
use Rattle.sheet.specs.Sections.{rows, nodes}
use Rattle.sheet.proofs.Tables.{grow_more}
use Rattle.rules.proofs.resting.rests_on.Goals as goal

-- the length of a part from the start on
from_start : (n : ℕ) → n - 0 ≡ n
from_start n = omega arith

pub loop-i-preserved : goal.loop-i-preserved
loop-i-preserved c =
    let table = c.loop-i.table in
    let i = c.loop-i.i in
    let m = c.mark_of.result in
    let inside : i < length table = omega (arith, c.loop-i.invariant.0, c.ranges.n.fits) in (
      length-set table i m ∙ c.loop-i.invariant.0,
      take_more_set table i m inside ∙ grow_more (mark (rows (rows_of c.args.sheet.now) nodes) c.args.target) i (take i table) m c.loop-i.invariant.1 (c.mark_of.ensures ∙ ap (λ k. mark (rows (rows_of c.args.sheet.now) nodes) c.args.target i (take k table)) (from_start i)),
    )

pub returns : goal.returns
returns c =
    let all : c.loop-i.i ≡ c.args.n = omega (arith, c.from-last.ensures) in
    let whole : c.from-last.result - 0 ≡ c.loop-i.i = omega (arith, c.from-last.ensures, all) in
    let before : take (c.from-last.result - 0) c.loop-i.table ≡ marks (rows (rows_of c.args.sheet.now) nodes) c.args.target c.args.n =
    ap (λ k. take k c.loop-i.table) whole ∙ c.loop-i.invariant.1 ∙ ap (marks (rows (rows_of c.args.sheet.now) nodes) c.args.target) all in
    c.mark_of-2.ensures ∙ (λ i. mark (rows (rows_of c.args.sheet.now) nodes) c.args.target (c.from-last.ensures i) (before i))
