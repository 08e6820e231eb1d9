use Rattle.std.proofs.Common.{◌≡◌, ℕ, List, length, sym, ap, ◌∙◌, subst, arith, rules}
use Rattle.image.specs.Bits.{number_of, low_bytes}
use Rattle.image.proofs.Images.{image_of_string}
use Rattle.image.proofs.Proved.{images_read_back, images_tell_states, lengths_by_sheets}
use Rattle.writer.specs.Written.{Written}
use Rattle.packed_rig.specs.Tables.{rows_in}
use Rattle.packed_rig.proofs.packed.PackedRig.image.Goals as goal

pub write_first-requires : goal.write_first-requires
write_first-requires c =
    let long : length c.args.self.now.tables.state.bytes ≡ 136 = search rules in
    omega (arith, long, c.image_length-length.ensures.few)

pub returns : goal.returns
returns c =
    let x = c.args.self.now.tables in
    let n = number_of x.state.bytes in
    let is = ap (λ k. low_bytes k n) c.image_length-length.ensures.value ∙ sym (image_of_string (rows_in x) n c.requires.spare) in
    record {
      written = subst (λ (bs : List ℕ). Written bs c.args.out.now c.write_first.new.out c.write_first.result) is c.write_first.ensures;
      images_read_back = images_read_back;
      images_tell_states = images_tell_states;
      lengths_by_sheets = lengths_by_sheets;
    }
