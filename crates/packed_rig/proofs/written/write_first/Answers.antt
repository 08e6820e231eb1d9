use Rattle.std.proofs.Common.{◌≡◌, ℕ, ◌-◌, ◌<◌, List, get_or, take, sym, ap, ◌∙◌, subst, arith, rules}
use Rattle.image.specs.Bits.{number_of, low_bytes}
use Rattle.image.proofs.Bytes.{bytes_number}
use Rattle.writer.specs.Written.{Written}
use Rattle.packed_rig.proofs.written.write_first.Goals as goal

pub returns : goal.returns
returns c =
    let bytes = c.args.bytes.now in
    let k = c.args.count in
    let small : (i : ℕ) → get_or bytes i 0 < 256 = search rules in
    let is : take (k - 0) bytes ≡ low_bytes k (number_of bytes) = ap (λ n. take n bytes) (omega arith) ∙ sym (bytes_number bytes k c.requires small) in
    subst (λ (bs : List ℕ). Written bs c.args.out.now c.write_front.new.out c.write_front.result) is c.write_front.ensures
