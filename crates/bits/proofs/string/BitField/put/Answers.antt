use Rattle.std.proofs.Common.{◌≡◌, ◌+◌, sym, ap, ap₂, ◌∙◌, arith}
use Rattle.image.specs.Bits.{number_of, part, put}
use Rattle.image.proofs.Parts.{part_lt, part_front, part_whole, put_more}
use Rattle.bits.proofs.Cells.{read_bit}
use Rattle.bits.proofs.string.BitField.put.Goals as goal

pub loop-i-preserved : goal.loop-i-preserved
loop-i-preserved c =
    let n = number_of c.args.bytes.now in
    let v = c.args.number in
    let i = c.loop-i.i in
    c.put_bit.ensures
    ∙ ap₂ (λ x b. put x (c.args.self.now.at + i) 1 b) c.loop-i.invariant (read_bit v i)
    ∙ put_more n c.args.self.now.at i 1 (part v 0 i) (part v i 1) (part_lt v 0 i)
    ∙ ap (put n c.args.self.now.at (i + 1)) (sym (part_front v i 1))

pub returns : goal.returns
returns c =
    let e : c.loop-i.i ≡ c.args.self.now.bits = omega arith in
    let n = number_of c.args.bytes.now in
    c.loop-i.invariant
    ∙ ap (λ x. put n c.args.self.now.at x (part c.args.number 0 x)) e
    ∙ ap (put n c.args.self.now.at c.args.self.now.bits) (part_whole c.args.number c.args.self.now.bits c.requires.room)
