use Rattle.std.proofs.Common.{◌≡◌, ℕ, List, ◌++◌, codes, decimal, ◌∙◌, append_assoc}
use Rattle.std.proofs.lemmas.Result.{IfOk-weaker}
use Rattle.refused.specs.Line.{refused_at}
use Rattle.sheet.specs.Accept.{number_of}
use Rattle.sheet.specs.Words.{reason_text}
use Rattle.report.specs.Text.{explained_line}
use Rattle.report.proofs.report.report_of_refusal.Goals as goal

-- the first line, and what follows it
first_line : (n a b : ℕ) (rest : List ℕ) → refused_at n a b ++ (codes "\n" ++ rest) ≡ (codes "refused " ++ (decimal n ++ (codes " " ++ (decimal a ++ (codes " " ++ (decimal b ++ codes "\n")))))) ++ rest
first_line n a b rest = simp append_assoc

pub returns : goal.returns
returns c =
    let f = c.args.f in
    let e = c.from-refused.ensures in
    let name = c.name_of_section-name.ensures in
    IfOk-weaker c.format.result _ _
    (λ t h. h
    ∙ (λ i. refused_at (e i).number (e i).first (e i).second ++ (codes "\nsection " ++ (decimal f.section ++ (codes " (" ++ (name i ++ (codes "), row " ++ (decimal f.row ++ (codes ": " ++ (reason_text f.reason ++ codes "\n")))))))))
    ∙ first_line (number_of f.reason) f.section f.row (explained_line f))
    c.format.ensures.ok
