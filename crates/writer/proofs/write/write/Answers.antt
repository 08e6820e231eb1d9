use Rattle.std.proofs.Common.{◌≡◌, [], length, arith}
use Rattle.sheet.specs.Sections.{section_bytes, bytes_of}
use Rattle.sheet.proofs.Acceptance.{reads_back}
use Rattle.sheet.proofs.Shapes.{nine_sections}
use Rattle.writer.proofs.Puts.{item_room, item_more}
use Rattle.writer.proofs.write.write.Goals as goal

pub returns-then-out-needed-clause-reads_back : goal.returns-then-out-needed-clause-reads_back
returns-then-out-needed-clause-reads_back g c = reads_back (g.R.Rig.rows c.args.rig.now) (g.met.R.Rig.sound c.args.rig.now c.requires).accepts

pub put_section-requires-clause-room : goal.put_section-requires-clause-room
put_section-requires-clause-room g c =
    let s = g.R.Rig.rows c.args.rig.now in
    let n : c.sheet_length-needed.result ≡ length (bytes_of s) = c.sheet_length-needed.ensures in
    item_room section_bytes s _ (omega (arith, n, c.if-out-needed.false)) c.loop-section.section c.loop-section.filling c.loop-section.invariant [] (omega (arith, c.loop-section-test.true, nine_sections s (g.met.R.Rig.sound c.args.rig.now c.requires).accepts))

pub loop-section-preserved : goal.loop-section-preserved
loop-section-preserved g c =
    let s = g.R.Rig.rows c.args.rig.now in
    let n : c.sheet_length-needed.result ≡ length (bytes_of s) = c.sheet_length-needed.ensures in
    item_more section_bytes s _ (omega (arith, n, c.if-out-needed.false)) c.loop-section.section c.loop-section.filling c.loop-section.invariant [] (omega (arith, c.loop-section-test.true, nine_sections s (g.met.R.Rig.sound c.args.rig.now c.requires).accepts)) c.put_section.new.self c.put_section.ensures

pub returns-clause-reads_back : goal.returns-clause-reads_back
returns-clause-reads_back g c = reads_back (g.R.Rig.rows c.args.rig.now) (g.met.R.Rig.sound c.args.rig.now c.requires).accepts
