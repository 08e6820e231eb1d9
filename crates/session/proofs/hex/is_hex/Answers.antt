use Rattle.std.proofs.Common.{◌≡◌, ◌%◌, ◌<◌, length, is_some, sym, ap, ◌∙◌, rules, tests}
use Rattle.std.proofs.lemmas.Iterator.{YieldsList-from_slice}
use Rattle.std.proofs.lemmas.Iterator.Search.{all_from_yields_List}
use Rattle.session.proofs.Digits.{byte_in, bytes_in, in_pieces, left_over, all_pieces}
use Rattle.session.proofs.hex.is_hex.Goals as goal

pub returns-then-is_empty : goal.returns-then-is_empty
returns-then-is_empty c =
    let even : length c.args.text.now % 2 ≡ 0 = search (rules, tests) in
    all_from_yields_List (λ p. is_some (byte_in p)) _ _ c.all.result c.all.ensures.ran (YieldsList-from_slice c.as_chunks.result.0.now cc) (λ x b q k. search (rules, tests))
    ∙ all_pieces c.as_chunks.result.0.now
    ∙ ap is_some (ap bytes_in c.as_chunks.ensures.front ∙ in_pieces c.args.text.now even)

pub returns-else-is_empty : goal.returns-else-is_empty
returns-else-is_empty c =
    let over : 0 < length c.args.text.now % 2 = search (rules, tests) in
    c.if-is_empty.false ∙ ap is_some (sym (left_over c.args.text.now over))
