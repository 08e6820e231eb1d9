use Rattle.std.proofs.Common.{◌≡◌, ◌*◌, ◌/◌, ◌≤◌, length, Ok, sym, ap, ◌∙◌, inl, inr, mul-le-mul_right, div-mul-le_self, mul-div_cancel, arith}
use Rattle.std.specs.Simd.{first_chunks}
use Rattle.sheet.specs.Sections.{shape}
use Rattle.sheet.proofs.Layouts.{bytes_from}
use Rattle.layout.proofs.Cuts.{missing, not_allowed, short, whole, chunked_front}
use Rattle.layout.proofs.take_section.Goals as goal
use Rattle.layout.proofs.take_section.Goals.{then-count-LEAST-via-then-count-LEAST, then-count-LEAST-via-else-count-LEAST+then-count-MOST}

pub returns-in_default : goal.returns-in_default
returns-in_default g c =
    record {
      answer = rw c.SECTION-section.ensures (missing g.R.SectionRow.SECTION (shape g.row.N g.R.SectionRow.LEAST g.R.SectionRow.MOST) c.args.bytes.now c.in_default.ensures.cases);
      typed = bytes_from c.args.bytes.now c.type_inv.bytes;
    }

pub returns-then-count-LEAST : goal.returns-then-count-LEAST
returns-then-count-LEAST g c =
    record {
      answer = rw c.SECTION-section.ensures (not_allowed g.R.SectionRow.SECTION (shape g.row.N g.R.SectionRow.LEAST g.R.SectionRow.MOST) c.args.bytes.now c.in-Some.count.now c.in-Some.rest.now c.in-Some.ensures.cases.0
          (elim c.then-count-LEAST.branch [ then-count-LEAST-via-then-count-LEAST w ↦ inl (rw c.LEAST.ensures at w.if-count-LEAST.true) | then-count-LEAST-via-else-count-LEAST+then-count-MOST w ↦ inr (rw w.MOST.ensures at w.if-count-MOST.true) ]));
      typed = bytes_from c.args.bytes.now c.type_inv.bytes;
    }

pub returns-then-whole_rows-count : goal.returns-then-whole_rows-count
returns-then-whole_rows-count g c =
    record {
      answer = rw c.SECTION-section.ensures (short g.R.SectionRow.SECTION (shape g.row.N g.R.SectionRow.LEAST g.R.SectionRow.MOST) c.args.bytes.now c.in-Some.count.now c.in-Some.rest.now c.in-Some.ensures.cases.0 (rw c.LEAST.ensures at c.if-count-LEAST.false) (rw c.MOST.ensures at c.if-count-MOST.false) g.met.R.SectionRow.some c.if-whole_rows-count.true);
      typed = bytes_from c.args.bytes.now c.type_inv.bytes;
    }

pub split_at-requires : goal.split_at-requires
split_at-requires g c = omega (arith, mul-le-mul_right g.row.N c.if-whole_rows-count.false, div-mul-le_self (length c.in-Some.rest.now) g.row.N)

pub returns : goal.returns
returns g c =
    let n = c.in-Some.count.now in
    let rest = c.in-Some.rest.now in
    let room : n * g.row.N ≤ length rest = omega (arith, mul-le-mul_right g.row.N c.if-whole_rows-count.false, div-mul-le_self (length rest) g.row.N) in
    let count : length c.split_at.result.0.now / g.row.N ≡ n = ap (λ k. k / g.row.N) c.split_at.ensures.front_len ∙ mul-div_cancel n g.met.R.SectionRow.some in
    let rows : c.as_chunks.result.0.now ≡ first_chunks g.row.N n rest =
    c.as_chunks.ensures.front ∙ (λ i. first_chunks g.row.N (count i) (c.split_at.ensures.front i)) ∙ chunked_front g.row.N n rest in
    record {
      answer = whole g.R.SectionRow.SECTION (shape g.row.N g.R.SectionRow.LEAST g.R.SectionRow.MOST) c.args.bytes.now n rest c.in-Some.ensures.cases.0 (rw c.LEAST.ensures at c.if-count-LEAST.false) (rw c.MOST.ensures at c.if-count-MOST.false) g.met.R.SectionRow.some room
          ∙ (λ i. Ok (sym rows i, sym c.split_at.ensures.back i));
      typed = bytes_from c.args.bytes.now c.type_inv.bytes;
    }
