use Rattle.std.proofs.Common.{[], arith}
use Rattle.sheet.specs.Sections.{Row, rows}
use Rattle.writer.proofs.Puts.{item_room, item_more, items_end, rows_room, section_end}
use Rattle.writer.proofs.filling.Filling.put_section.Goals as goal

pub put_row-requires : goal.put_row-requires
put_row-requires g c =
    let rs = rows (g.V.View.rows c.args.view.now) c.args.section in
    let n = c.row_count-count.ensures.value in
    let room = rows_room rs c.row_count-count.result n c.args.self.now c.put.new.self c.requires.room c.put.ensures in
    item_room (λ (r : Row). r) rs c.put.new.self room c.loop-row.row c.loop-row.self c.loop-row.invariant [] (omega (arith, n, c.loop-row-test.true))

pub loop-row-preserved : goal.loop-row-preserved
loop-row-preserved g c =
    let rs = rows (g.V.View.rows c.args.view.now) c.args.section in
    let n = c.row_count-count.ensures.value in
    let room = rows_room rs c.row_count-count.result n c.args.self.now c.put.new.self c.requires.room c.put.ensures in
    item_more (λ (r : Row). r) rs c.put.new.self room c.loop-row.row c.loop-row.self c.loop-row.invariant [] (omega (arith, n, c.loop-row-test.true)) c.put_row.new.self c.put_row.ensures

pub returns : goal.returns
returns g c =
    let rs = rows (g.V.View.rows c.args.view.now) c.args.section in
    let n = c.row_count-count.ensures.value in
    let room = rows_room rs c.row_count-count.result n c.args.self.now c.put.new.self c.requires.room c.put.ensures in
    section_end rs c.row_count-count.result n c.args.self.now c.put.new.self c.requires.room c.put.ensures c.loop-row.self
    (items_end (λ (r : Row). r) rs c.put.new.self room c.loop-row.row c.loop-row.self c.loop-row.invariant [] (omega (arith, n, c.loop-row-test.false)))
