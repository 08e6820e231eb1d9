use Rattle.std.proofs.Common.{◌≡◌, true, is_some, vec_items, ap, ◌∙◌, rules, tests}
use Rattle.session.specs.Sixteen.{hex_of}
use Rattle.session.proofs.Digits.{bytes_in, in_pieces, no_digit_over, none_before, read_more}
use Rattle.session.proofs.hex.hex_bytes.Goals as goal

pub loop-high-init : goal.loop-high-init
loop-high-init c =
    let text = c.args.text.now in
    let some : is_some (hex_of text) ≡ true = search (rules, tests) in
    none_before (vec_items c.new-bytes.result) (bytes_in c.as_chunks.result.0.now) c.new-bytes.ensures.items ∙ ap bytes_in c.as_chunks.ensures.front ∙ in_pieces text (no_digit_over text some)

pub loop-high-preserved : goal.loop-high-preserved
loop-high-preserved c =
    read_more c.as_chunks.result.0.now c.loop-high.high-index (vec_items c.loop-high.bytes) (vec_items c.push.new.self) c.in-Some.byte (hex_of c.args.text.now) c.loop-high-test.true c.in-Some.ensures c.in_ok-push.ensures.items c.loop-high.invariant
