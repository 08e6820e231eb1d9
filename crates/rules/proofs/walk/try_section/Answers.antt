use Rattle.std.proofs.Common.{◌≡◌, ℕ, ◌+◌, ◌<◌, List, [], length, get_or, None, Ok, Err, sym, ap, ◌∙◌, arith}
use Rattle.std.proofs.lemmas.List.{get_or_read}
use Rattle.layout.specs.Laid.{rows_of}
use Rattle.sheet.specs.Entry.{Entry}
use Rattle.sheet.specs.declared.refusal.Reason.{Reason}
use Rattle.sheet.specs.declared.refusal.Refusal.{Refusal}
use Rattle.sheet.specs.Sections.{Row, rows}
use Rattle.sheet.specs.Tries.{Try, first_fault, each}
use Rattle.sheet.specs.Rules.{Checks}
use Rattle.sheet.specs.Accept.{refusal, entry_tries, judged}
use Rattle.sheet.proofs.Firsts.{each_more, each_stops}
use Rattle.rules.specs.Walk.{Verdict, by_reason, row_reason, section_verdict}
use Rattle.rules.proofs.Rows.{tries_placed, kept_none, refused_some}
use Rattle.rules.proofs.walk.try_section.Goals as goal

module _ {X : Type 0} (s : ℕ) (entry : Row → Entry X) (checks : ℕ → X → Checks) (rs : List Row) (i : ℕ) (row : Row) (l : i < length rs) (is : row ≡ get_or rs i row) (none : first_fault (each i (λ j. entry_tries s j (checks j) (entry (get_or rs j [])))) ≡ None) where
  tries_at : ℕ → List (Try Refusal)
  tries_at j = entry_tries s j (checks j) (entry (get_or rs j []))

  -- the tries of the row that was read
  read_tries : first_fault (entry_tries s i (checks i) (entry row)) ≡ first_fault (tries_at i)
  unfolding tries_at
  read_tries = ap (λ r. first_fault (entry_tries s i (checks i) (entry r))) (get_or_read rs i row l is [])

  passes_on : by_reason (row_reason (checks i) (entry row)) ≡ Ok tt → first_fault (each (i + 1) (λ j. entry_tries s j (checks j) (entry (get_or rs j [])))) ≡ None
  unfolding tries_at
  passes_on e = each_more tries_at i none (sym read_tries ∙ tries_placed s i (checks i) (entry row) ∙ kept_none s i (row_reason (checks i) (entry row)) e)

  stops_at : (y : Reason) → by_reason (row_reason (checks i) (entry row)) ≡ Err y → ◌≡◌ {A = Verdict} (Err (refusal y s i)) (section_verdict s entry checks rs)
  unfolding tries_at section_verdict
  stops_at y e = sym (ap (judged tt) (each_stops tries_at i (length rs) (refusal y s i) none (sym read_tries ∙ tries_placed s i (checks i) (entry row) ∙ refused_some s i (row_reason (checks i) (entry row)) y e) l))

pub returns-in-Err : goal.returns-in-Err
returns-in-Err g c =
    rw c.SECTION.ensures (stops_at g.R.SectionRow.SECTION g.R.FromRow.entry (g.R.Tried.checks (rows_of c.args.sheet.now)) (rows (rows_of c.args.sheet.now) g.R.SectionRow.SECTION) c.loop-i.i c.row-item.result
    (rw c.rows_in-row-items.ensures at c.loop-i-test.true) (rw c.rows_in-row-items.ensures at c.row-item.is) c.loop-i.invariant c.in-Err.reason (sym c.try_row.ensures ∙ c.in-Err.is))

pub loop-i-preserved : goal.loop-i-preserved
loop-i-preserved g c =
    passes_on g.R.SectionRow.SECTION g.R.FromRow.entry (g.R.Tried.checks (rows_of c.args.sheet.now)) (rows (rows_of c.args.sheet.now) g.R.SectionRow.SECTION) c.loop-i.i c.row-item.result
    (rw c.rows_in-row-items.ensures at c.loop-i-test.true) (rw c.rows_in-row-items.ensures at c.row-item.is) c.loop-i.invariant (sym c.try_row.ensures ∙ c.in_default.is)

pub returns : goal.returns
unfolding section_verdict
returns g c =
    let all : c.loop-i.i ≡ length c.rows_in-row-items.result.now = omega arith in
    let none = rw (all, c.rows_in-row-items.ensures) at c.loop-i.invariant in
    sym (ap (judged tt) none)
