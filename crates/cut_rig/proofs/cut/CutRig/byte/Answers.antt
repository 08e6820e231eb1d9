use Rattle.std.proofs.Common.{◌≡◌, true, false, cond, ◌&&◌, eqb, [], get_or, None, unwrap_or, sym, ap, ◌∙◌, rules}
use Rattle.std.proofs.lemmas.Bool.{and_from, and_left, and_right, eq-eqb, ne_eqb}
use Rattle.std.specs.Option.{option_map}
use Rattle.sheet.specs.Sections.{rows}
use Rattle.sheet.specs.Typed.{at}
use Rattle.cutting.specs.CutCells.{component_byte, cut_byte}
use Rattle.cutting.specs.CutSheet.{shown_mode}
use Rattle.cutting.proofs.CutBytes.{byte_cut}
use Rattle.cut_rig.specs.Tables.{kept_in, chosen_by}
use Rattle.cut_rig.proofs.Shows.{row_few, start_told, blank_told, staying_told, first_byte}
use Rattle.cut_rig.proofs.cut.CutRig.byte.Goals as goal
use Rattle.cut_rig.proofs.cut.CutRig.byte.Goals.{else-section-eq-TRANSITIONS-via-then-section-eq-TRANSITIONS+else-place-eq2, else-section-eq-TRANSITIONS-via-else-section-eq-TRANSITIONS}

pub returns-in_err-byte : goal.returns-in_err-byte
returns-in_err-byte g c =
    let x = c.args.self.now in
    let s = g.R.Rig.rows x.below in
    let k = kept_in x.tables in
    let chosen = chosen_by x.tables in
    let accepts = (g.met.R.Rig.sound x.below c.requires.below_fits).accepts in
    let none : c.from_residual.result ≡ None = search rules in
    none ∙ ap (option_map (cut_byte k chosen s c.args.section c.args.row c.args.place)) c.in_err-byte.ensures ∙ sym (byte_cut k chosen s accepts c.args.row c.args.place c.args.section)

pub overflow_cast-row : goal.overflow_cast-row
overflow_cast-row g c =
    let x = c.args.self.now in
    let accepts = (g.met.R.Rig.sound x.below c.requires.below_fits).accepts in
    record { fits = row_few (g.R.Rig.rows x.below) x.tables accepts c.requires.tables_fit c.args.section c.args.row c.args.place c.in_ok-byte.byte c.in_ok-byte.ensures }

pub returns-then-place-eq1 : goal.returns-then-place-eq1
returns-then-place-eq1 g c =
    let x = c.args.self.now in
    let k = kept_in x.tables in
    let i = c.args.row in
    let b = c.in_ok-byte.byte in
    let accepts = (g.met.R.Rig.sound x.below c.requires.below_fits).accepts in
    start_told (g.R.Rig.rows x.below) x.tables accepts c.requires.tables_fit c.args.section i c.args.place b c.in_ok-byte.ensures _ c.if-section-eq-COMPONENTS.true (c.shown_mode-start.ensures ∙ sym (ap (λ p. component_byte k i p b) c.if-place-eq1.true))

pub returns-else-place-eq1 : goal.returns-else-place-eq1
returns-else-place-eq1 g c =
    let x = c.args.self.now in
    let i = c.args.row in
    let b = c.in_ok-byte.byte in
    let accepts = (g.met.R.Rig.sound x.below c.requires.below_fits).accepts in
    start_told (g.R.Rig.rows x.below) x.tables accepts c.requires.tables_fit c.args.section i c.args.place b c.in_ok-byte.ensures _ c.if-section-eq-COMPONENTS.true (sym (ap (λ y. cond y (shown_mode (kept_in x.tables) i b) b) (ne_eqb c.args.place 1 c.if-place-eq1.false)))

pub returns-then-not-row_stays : goal.returns-then-not-row_stays
returns-then-not-row_stays g c =
    let x = c.args.self.now in
    let accepts = (g.met.R.Rig.sound x.below c.requires.below_fits).accepts in
    blank_told (g.R.Rig.rows x.below) x.tables accepts c.requires.tables_fit c.args.section c.args.row c.args.place c.in_ok-byte.byte c.in_ok-byte.ensures _ c.if-section-eq-COMPONENTS.false (sym c.if-not-row_stays.ensures) c.byte_of_blank.ensures

pub returns-then-place-eq2 : goal.returns-then-place-eq2
returns-then-place-eq2 g c =
    let x = c.args.self.now in
    let s = g.R.Rig.rows x.below in
    let k = kept_in x.tables in
    let b = c.in_ok-byte.byte in
    let r = get_or (rows s c.args.section) c.args.row [] in
    let accepts = (g.met.R.Rig.sound x.below c.requires.below_fits).accepts in
    let component : c.unwrap_or-component.result ≡ at r 0 = c.unwrap_or-component.ensures ∙ ap (λ o. unwrap_or o 0) c.byte-then-place-eq2.ensures ∙ first_byte r in
    let to_mode : (eqb c.args.section 6 && eqb c.args.place 2) ≡ true = and_from _ _ (eq-eqb c.args.section 6 c.if-section-eq-TRANSITIONS.true) (eq-eqb c.args.place 2 c.if-place-eq2.true) in
    staying_told s x.tables accepts c.requires.tables_fit c.args.section c.args.row c.args.place b c.in_ok-byte.ensures _ c.if-section-eq-COMPONENTS.false (sym c.if-not-row_stays.ensures) (c.shown_mode.ensures ∙ ap (λ n. shown_mode k n b) component ∙ sym (ap (λ y. cond y (shown_mode k (at r 0) b) b) to_mode))

pub returns : goal.returns
returns g c =
    let x = c.args.self.now in
    let s = g.R.Rig.rows x.below in
    let k = kept_in x.tables in
    let b = c.in_ok-byte.byte in
    let r = get_or (rows s c.args.section) c.args.row [] in
    let accepts = (g.met.R.Rig.sound x.below c.requires.below_fits).accepts in
    let other : (eqb c.args.section 6 && eqb c.args.place 2) ≡ false =
    elim c.else-section-eq-TRANSITIONS.branch [
      | else-section-eq-TRANSITIONS-via-then-section-eq-TRANSITIONS+else-place-eq2 w ↦ and_right (eqb c.args.section 6) (eqb c.args.place 2) (ne_eqb c.args.place 2 w.if-place-eq2.false)
      | else-section-eq-TRANSITIONS-via-else-section-eq-TRANSITIONS w ↦ and_left (eqb c.args.section 6) (eqb c.args.place 2) (ne_eqb c.args.section 6 w.if-section-eq-TRANSITIONS.false)
    ] in
    staying_told s x.tables accepts c.requires.tables_fit c.args.section c.args.row c.args.place b c.in_ok-byte.ensures _ c.if-section-eq-COMPONENTS.false (sym c.if-not-row_stays.ensures) (sym (ap (λ y. cond y (shown_mode k (at r 0) b) b) other))
