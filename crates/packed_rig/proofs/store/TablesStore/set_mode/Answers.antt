use Rattle.std.proofs.Common.{◌^◌, ◌<◌, get_or, set, sym, refl, ap, ◌∙◌, subst}
use Rattle.image.specs.Bits.{number_of}
use Rattle.image.specs.Reading.{widths, numbers_in, state_from}
use Rattle.image.proofs.Changes.{mode_set}
use Rattle.packed_rig.specs.Tables.{rows_in}
use Rattle.packed_rig.proofs.Places.{mode_place, field_of_mode, numbers_long}
use Rattle.packed_rig.proofs.store.TablesStore.set_mode.Goals as goal

pub put_in_field-requires : goal.put_in_field-requires
put_in_field-requires c =
    let s = rows_in c.args.self.now in
    let p = mode_place s c.args.component c.args.mode c.requires in
    record {
      inside = field_of_mode s c.args.component p.inside;
      room = subst (λ m. m < 2 ^ get_or (widths s) c.args.component 0) (sym c.from.ensures) p.room;
      spare = c.args.self.now.spare;
    }

pub invariant_of-self : goal.invariant_of-self
invariant_of-self c = record { spare = c.put_in_field.ensures.still_spare }

pub returns : goal.returns
returns c =
    let x = c.args.self.now in
    let s = rows_in x in
    let n = number_of x.state.bytes in
    let p = mode_place s c.args.component c.args.mode c.requires in
    record {
      rows = refl;
      state = ap (state_from s) (c.put_in_field.ensures.numbers ∙ ap (set (numbers_in (widths s) n) c.args.component) c.from.ensures) ∙ mode_set s (numbers_in (widths s) n) (numbers_long s n) c.args.component c.args.mode p.inside;
    }
