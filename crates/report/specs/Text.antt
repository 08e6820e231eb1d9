-- What is said of some bytes, in words.
use Rattle.std.specs.Prelude.{ℕ, zero, suc, List, [], ◌∷◌, ◌++◌, length, Some, None, Ok, Err, codes, decimal, Option, Result, slice_index_or}
use Rattle.sheet.specs.declared.refusal.Refusal.{Refusal}
use Rattle.sheet.specs.declared.rows.Component.{Component}
use Rattle.sheet.specs.declared.rows.Question.{Question}
use Rattle.sheet.specs.Sections.{Sheet, rows, components, questions, bytes_of}
use Rattle.sheet.specs.Lookup.{component_at, question_at}
use Rattle.sheet.specs.Accept.{number_of, accept}
use Rattle.sheet.specs.Words.{reason_text}

-- the names of the sections, and of the place behind them
abbrev pub section_names : List (List ℕ)
section_names = codes "components" ∷ codes "data elements" ∷ codes "events" ∷ codes "nodes" ∷ codes "flows" ∷ codes "connections" ∷ codes "transitions" ∷ codes "settings" ∷ codes "questions" ∷ []

abbrev pub section_name : ℕ → List ℕ
section_name k = slice_index_or section_names k (codes "behind the last section")

-- the first line on bytes that are refused: the number, the section and the row
abbrev pub refused_line : Refusal → List ℕ
refused_line f = codes "refused " ++ (decimal (number_of f.reason) ++ (codes " " ++ (decimal f.section ++ (codes " " ++ (decimal f.row ++ codes "\n")))))

abbrev pub explained_line : Refusal → List ℕ
explained_line f = codes "section " ++ (decimal f.section ++ (codes " (" ++ (section_name f.section ++ (codes "), row " ++ (decimal f.row ++ (codes ": " ++ (reason_text f.reason ++ codes "\n")))))))

-- the number of rows of a section
abbrev pub count_line : Sheet → ℕ → List ℕ
count_line s k = section_name k ++ (codes ": " ++ (decimal (length (rows s k)) ++ codes "\n"))

abbrev pub component_text : ℕ → Option Component → List ℕ
component_text i None = []
component_text i (Some x) = codes "component " ++ (decimal i ++ (codes ": modes 1 to " ++ (decimal x.modes ++ (codes ", starts in mode " ++ (decimal x.start ++ codes "\n")))))

abbrev pub component_line : Sheet → ℕ → List ℕ
component_line s i = component_text i (component_at s i)

abbrev pub question_text : ℕ → Option Question → List ℕ
question_text i None = codes "question " ++ (decimal i ++ codes " is blank\n")
question_text i (Some x) = codes "question " ++ (decimal i ++ (codes " asks whether node " ++ (decimal x.node ++ codes " holds\n")))

abbrev pub question_line : Sheet → ℕ → List ℕ
question_line s i = question_text i (question_at s i)

abbrev pub rewritten_line : ℕ → List ℕ
rewritten_line n = codes "written out again: the same " ++ (decimal n ++ codes " bytes\n")

-- the lines f 0, f 1, up to f (n - 1)
abbrev pub lines : ℕ → (ℕ → List ℕ) → List ℕ
lines zero f = []
lines (suc n) f = lines n f ++ f n

-- what is in a sheet
abbrev pub contents_text : Sheet → List ℕ
contents_text s =
    codes "accepted\n"
    ++ (lines (length s) (count_line s)
    ++ (lines (length (rows s components)) (component_line s)
    ++ lines (length (rows s questions)) (question_line s)))

abbrev pub accepted_text : Sheet → List ℕ
accepted_text s = contents_text s ++ rewritten_line (length (bytes_of s))

abbrev pub refused_text : Refusal → List ℕ
refused_text f = refused_line f ++ explained_line f

abbrev pub told : Result Sheet Refusal → List ℕ
told (Ok s) = accepted_text s
told (Err f) = refused_text f

-- What is said of any bytes.
abbrev pub report_of : List ℕ → List ℕ
report_of bs = told (accept bs)
