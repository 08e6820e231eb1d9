use Rattle.std.proofs.Common.{◌≡◌, ℕ, ◌≤◌, List, ◌++◌, length, drop, Ok, Err, Result, MatchResult, IsErrAnd, subst, arith}
use Rattle.cut_rig.specs.Cuts.{rows_above, CutOf, MadeAbove}
use Rattle.sheet.specs.Sections.{bytes_of}
use Rattle.writer.specs.declared.fault.TooShort.{TooShort}
use Rattle.writer.specs.Written.{Written}
use Rattle.cut_bytes.proofs.one_call.cut_and_write.Goals as goal

-- a value that is there after the error was mapped was there before
was_there : {X E D : Type 0} (r : Result X E) (s : Result X D) (P : E → D → Type 0) (x : X) → MatchResult r (λ y. s ≡ Ok y) (λ e. IsErrAnd s (P e)) → s ≡ Ok x → r ≡ Ok x
was_there (Ok y) s P x same e = cc
was_there (Err f) s P x err e = absurd (subst (λ s. IsErrAnd s (P f)) e err)

-- what was written had room
had_room : (bs before behind : List ℕ) (r : Result ℕ TooShort) (n : ℕ) → Written bs before behind r → r ≡ Ok n → (length bs ≤ length before) × (n ≡ length bs) × (behind ≡ bs ++ drop (length bs) before)
had_room bs before behind r n w e = grind arith

pub returns : goal.returns
returns g c =
    let rig = c.args.rig in
    let cut = c.in_ok-cut.cut in
    let t = rows_above g.R.Rig.rows cut in
    let made : CutOf g.R.Rig.rows g.R.Rig.fits rig c.args.set cut =
    subst (MadeAbove g.R.Rig.rows g.R.Rig.fits rig c.args.set) (was_there c.new.result c.map_err.result _ cut c.map_err.ensures.cases c.in_ok-cut.was) c.new.ensures.made in
    let room = had_room (bytes_of t) c.args.out.now c.write.new.out c.write.result c.in_ok-length.length c.write.ensures.written c.in_ok-length.was in
    record { cut = t; is_there = made.is_there; is_cut = made.is_cut; room = room.0; long = room.1; written = room.2 }
