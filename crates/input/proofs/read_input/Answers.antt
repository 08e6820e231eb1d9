use Rattle.std.proofs.Common.{◌≡◌, ℕ, ◌+◌, ◌-◌, ◌≤◌, List, ◌++◌, None, Some, Option, rules, length, take, sym, ap, ◌∙◌, subst, append_assoc, length-take-le}
use Rattle.std.proofs.lemmas.List.{take-append-le}
use Rattle.std.proofs.Math.Seq.{take-append-add}
use Rattle.std.specs.Io.KnownBytes.{Consumes}
use borrow.Rule.Slice.PartMut.{put_mid, post_of}
use Rattle.input.proofs.read_input.Goals as goal

-- what two reads gave, one after the other
consumed_on : (a b c : Option (List ℕ)) (xs ys : List ℕ) → Consumes a b xs → Consumes b c ys → Consumes a c (xs ++ ys)
consumed_on None b c xs ys p q = tt
consumed_on (Some l) None c xs ys p q = absurd p
consumed_on (Some l) (Some m) None xs ys p q = absurd q
consumed_on (Some l) (Some m) (Some n) xs ys p q = p ∙ ap (λ k. xs ++ k) q ∙ sym (append_assoc xs ys n)

-- a read from a place on leaves what stands before, and its bytes behind
taken : (at room n : ℕ) (buffer part : List ℕ) → at ≤ length buffer → n ≤ length part → take (at + n) (put_mid at room buffer part) ≡ take at buffer ++ take n part
taken at room n buffer part within fits =
    let front = take at buffer in
    let behind = part ++ post_of at room buffer in
    ap (λ k. take (k + n) (front ++ behind)) (sym (length-take-le at buffer within)) ∙ take-append-add front behind n ∙ ap (λ l. front ++ l) (take-append-le n part (post_of at room buffer) fits)

pub loop-len-preserved : goal.loop-len-preserved
loop-len-preserved g c =
    let buffer = c.loop-len.buffer in
    let at = c.loop-len.len in
    let read = c.in_ok-n.ensures in
    let front = taken at (length buffer - at) c.in_ok-n.n buffer c.read.new.buf c.loop-len.invariant.0 read.bound.0 in
    (search rules, subst (Consumes _ _) (sym front) (consumed_on _ _ _ _ _ c.loop-len.invariant.1 read.bytes.0))
