use Rattle.std.proofs.Common.{ℕ, length, refl, ◌∙◌, map, arith, rules}
use Rattle.std.specs.List.{range_with_len}
use borrow.Author.Tests.{tests}
use Rattle.std.proofs.lemmas.Iterator.{YieldsList-from_range, YieldsList-from_map}
use Rattle.std.proofs.lemmas.Iterator.Adapters.{fits_from_length, at_most_from_yields_List}
use Rattle.std.proofs.lemmas.Iterator.Consumers.{sum_from_yields_List}
use Rattle.sheet.specs.Sections.{rows, section_bytes}
use Rattle.writer.proofs.Lengths.{sum_of_lengths}
use Rattle.writer.proofs.write.sheet_length.Goals as goal

pub sum-requires-clause-fits : goal.sum-requires-clause-fits
sum-requires-clause-fits g c =
    fits_from_length _ _ 9 _ (at_most_from_yields_List (YieldsList-from_range 0 9 9 c.map.ensures.source refl) (omega arith)) c.map.ensures.closure (omega arith) (λ x r q k. search (rules, tests))

pub returns : goal.returns
returns g c =
    let s = g.V.View.rows c.args.view.now in
    let lengths = λ (k : ℕ). length (section_bytes (rows s k)) in
    sum_from_yields_List {all = map lengths (range_with_len 0 9)} c.map.result c.sum.result c.sum.ensures.ran (YieldsList-from_map _ lengths (YieldsList-from_range 0 9 9 c.map.ensures.source refl) c.map.ensures.closure (λ x r q k. search rules))
    ∙ sum_of_lengths s (g.met.V.View.accepts c.args.view.now)
