use Rattle.std.proofs.Common.{[], get_or, refl, ap, ◌∙◌, arith}
use Rattle.std.proofs.lemmas.List.{length-replicate}
use Rattle.sheet.specs.Sections.{Shape, rows}
use Rattle.view.proofs.Bytes.{taken_more, row_missing, row_whole}
use Rattle.view.proofs.typed.bytes_of.Goals as goal

pub loop-place-init : goal.loop-place-init
loop-place-init g c = record { long = length-replicate g.row.N 0; inside = omega arith; same = refl }

pub returns-in_err-byte : goal.returns-in_err-byte
returns-in_err-byte g c =
    c.from_residual.ensures ∙ row_missing (g.V.View.rows c.args.view.now) g.R.SectionRow.SECTION c.args.row g.row.N (g.met.V.View.accepts c.args.view.now) (ap (λ (h : Shape). h.width) g.met.R.SectionRow.shaped) c.loop-place.place c.loop-place-test.true (rw c.SECTION.ensures at c.in_err-byte.ensures)

pub loop-place-preserved : goal.loop-place-preserved
loop-place-preserved g c =
    taken_more (get_or (rows (g.V.View.rows c.args.view.now) g.R.SectionRow.SECTION) c.args.row []) c.loop-place.byte-items g.row.N c.loop-place.place c.loop-place.invariant c.in_ok-byte.field-0 c.loop-place-test.true (rw c.SECTION.ensures at c.in_ok-byte.ensures)

pub returns : goal.returns
returns g c =
    row_whole (g.V.View.rows c.args.view.now) g.R.SectionRow.SECTION c.args.row g.row.N (g.met.V.View.accepts c.args.view.now) (ap (λ (h : Shape). h.width) g.met.R.SectionRow.shaped) c.loop-place.byte-items c.loop-place.place g.met.R.SectionRow.some c.loop-place-test.false c.loop-place.invariant
