use Rattle.std.proofs.Common.{ℕ, sym, refl, ap, ◌∙◌, subst}
use Rattle.cutting.specs.CutSheet.{cut_sheet, cut_fault}
use Rattle.cutting.specs.Kept.{chosen_in, Smallest}
use Rattle.cutting.proofs.AcceptedCuts.{cuts_are_accepted}
use Rattle.cutting.proofs.UniqueCuts.{smallest_is_unique, cut_is_unique}
use Rattle.cut_rig.specs.Tables.{kept_in}
use Rattle.cut_rig.proofs.cut.Cut.new.Goals as goal

pub returns-in-Ok : goal.returns-in-Ok
returns-in-Ok g c =
    let s = g.R.Rig.rows c.args.below in
    let t = c.in-Ok.tables in
    let f = c.in-Ok.ensures in
    record {
      made = record {
        is_there = ap (cut_fault s) (sym f.1) ∙ f.0.keeps.is_there;
        cut_fits = record { below_fits = c.requires; tables_fit = f.0 };
        above = refl;
        is_cut = record {
          kept = kept_in t;
          smallest = subst (λ (n : ℕ). Smallest s (chosen_in n) (kept_in t)) f.1 f.0.keeps.smallest;
          leaves = ap (λ n. cut_sheet (kept_in t) (chosen_in n) s) f.1;
        };
      };
      smallest_is_unique = smallest_is_unique;
      cut_is_unique = cut_is_unique;
      cuts_are_accepted = cuts_are_accepted;
    }

pub returns-in-Err : goal.returns-in-Err
returns-in-Err g c =
    record {
      made = (refl, c.in-Err.ensures);
      smallest_is_unique = smallest_is_unique;
      cut_is_unique = cut_is_unique;
      cuts_are_accepted = cuts_are_accepted;
    }
