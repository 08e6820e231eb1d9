use Rattle.std.proofs.Common.{◌≡◌, ℕ, List, ◌++◌, length, Result, sym, ap, ◌∙◌, append-nil, arith}
use Rattle.std.proofs.lemmas.Slice.Eq.{slice_eq-Decides}
use Rattle.std.proofs.lemmas.List.{drop_all}
use Rattle.sheet.specs.Sections.{bytes_of}
use Rattle.writer.specs.Written.{Written}
use Rattle.writer.specs.declared.fault.TooShort.{TooShort}
use Rattle.report.proofs.rewrite.is_rewritten.Goals as goal
use Rattle.std.proofs.lemmas.Bool.Decides.{Decides-eqb}

-- what is written to a buffer of just its length fills it
fills : (bs before behind : List ℕ) (r : Result ℕ TooShort) → Written bs before behind r → length before ≡ length bs → behind ≡ bs
fills bs before behind r w e = (w.fits (omega arith)).1 ∙ ap (λ l. bs ++ l) (drop_all (length bs) before (omega arith)) ∙ append-nil bs

pub returns-in-Ok : goal.returns-in-Ok
returns-in-Ok g c =
    let bs = bytes_of (g.R.Rig.rows c.args.rig.now) in
    let long : length c.args.copy.now ≡ length bs = c.requires.long ∙ ap length (sym c.requires.same) in
    (slice_eq-Decides Decides-eqb c.write.new.out c.args.bytes.now c.eq.result c.eq.ensures).1
    (fills bs c.args.copy.now c.write.new.out c.write.result c.write.ensures.written long ∙ c.requires.same)
