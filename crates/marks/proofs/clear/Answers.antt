use Rattle.marks.specs.Marks.{clear}
use Rattle.marks.proofs.clear.Goals as goal

pub returns : goal.returns
unfolding clear
returns c = cc
