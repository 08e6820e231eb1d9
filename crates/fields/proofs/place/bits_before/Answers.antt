use Rattle.std.proofs.Common.{ℕ, get_or, ◌∙◌, map, arith, rules}
use Rattle.std.specs.List.{range_with_len}
use Rattle.std.proofs.lemmas.Iterator.{YieldsList-from_range, YieldsList-from_map}
use Rattle.std.proofs.lemmas.Iterator.Consumers.{sum_from_yields_List, fits_from_yields_list}
use Rattle.image.specs.Reading.{widths}
use Rattle.image.proofs.Proved.{total_few}
use Rattle.reader.specs.Means.{rows_held}
use Rattle.fields.proofs.Places.{sum_of_widths, place_within}
use Rattle.fields.proofs.place.bits_before.Goals as goal

pub sum-requires-clause-fits : goal.sum-requires-clause-fits
sum-requires-clause-fits c =
    let s = rows_held c.args.sheet.now in
    let i = c.args.i in
    let width = λ (k : ℕ). get_or (widths s) k 0 in
    fits_from_yields_list {all = map width (range_with_len 0 i)} c.map.result _ (YieldsList-from_map _ width (YieldsList-from_range 0 i i c.map.ensures.source (omega arith)) c.map.ensures.closure (λ x r q k. search rules))
    (omega (arith, sum_of_widths (widths s) i c.requires, place_within (widths s) i, total_few s c.args.sheet.now.accepted))

pub returns : goal.returns
returns c =
    let s = rows_held c.args.sheet.now in
    let i = c.args.i in
    let width = λ (k : ℕ). get_or (widths s) k 0 in
    sum_from_yields_List {all = map width (range_with_len 0 i)} c.map.result c.sum.result c.sum.ensures.ran (YieldsList-from_map _ width (YieldsList-from_range 0 i i c.map.ensures.source (omega arith)) c.map.ensures.closure (λ x r q k. search rules))
    ∙ sum_of_widths (widths s) i c.requires
