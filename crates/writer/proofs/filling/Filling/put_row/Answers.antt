use Rattle.std.proofs.Common.{◌≡◌, ◌+◌, [], get_or, Some, rules}
use Rattle.std.specs.List.{slice_get}
use Rattle.sheet.specs.Sections.{rows}
use Rattle.sheet.proofs.Lookups.{byte_there}
use Rattle.writer.proofs.Puts.{byte_more}
use Rattle.writer.proofs.filling.Filling.put_row.Goals as goal

pub loop-place-preserved : goal.loop-place-preserved
loop-place-preserved g c =
    let xs = get_or (rows (g.V.View.rows c.args.view.now) c.args.section) c.args.row [] in
    let i = c.loop-place.place-iterator.start in
    let next : c.next.new.self.start ≡ i + 1 = search rules in
    let found : Some c.in-Some-byte.byte ≡ slice_get xs i = search rules in
    let there = byte_there xs i c.in-Some-byte.byte found in
    rw next (tt, tt, byte_more xs c.args.self.now c.requires i c.loop-place.self c.loop-place.invariant.2 c.in-Some-byte.byte c.put.new.self there.0 there.1 c.put.ensures)
