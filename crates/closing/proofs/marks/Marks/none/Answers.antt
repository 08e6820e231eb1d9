use Rattle.marking.proofs.Tables.{none_marked}
use Rattle.closing.proofs.marks.Marks.none.Goals as goal

pub returns : goal.returns
returns c = none_marked 512
