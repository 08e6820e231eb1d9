use Rattle.std.proofs.Common.{ℕ, List, Ok, Err, Result, sym, ◌∙◌}
use Rattle.sheet.specs.declared.refusal.Refusal.{Refusal}
use Rattle.sheet.specs.Sections.{shapes}
use Rattle.sheet.specs.Tries.{first_fault}
use Rattle.sheet.specs.Accept.{layout_tries, rows_in}
use Rattle.sheet.proofs.Acceptance.{judged_ok, judged_err}
use Rattle.layout.specs.declared.rows.Layout.{Layout}
use Rattle.layout.specs.Laid.{rows_of, LaysOut}
use Rattle.layout.specs.Sections.{sections, Tells}
use Rattle.layout.proofs.Cuts.{sections_are}
use Rattle.layout.proofs.lay_out.Goals as goal

lays_out : (bs : List ℕ) (r : Result Layout Refusal) → Tells rows_of (sections 0 shapes bs) r → LaysOut bs r
lays_out bs (Ok l) e =
    let p = judged_ok (rows_in bs) (rows_of l) (first_fault (layout_tries 0 shapes bs)) (sym (sections_are 0 shapes bs) ∙ e) in
    (p.0, sym p.1)
lays_out bs (Err f) e = judged_err (rows_in bs) (first_fault (layout_tries 0 shapes bs)) f (sym (sections_are 0 shapes bs) ∙ e)

pub returns : goal.returns
returns c = record { answer = lays_out c.args.bytes.now c.take_sections.result c.take_sections.ensures.answer; typed = c.take_sections.ensures.typed }
