use Rattle.marks.specs.Marks.{met}
use Rattle.marks.proofs.met.Goals as goal

pub returns : goal.returns
unfolding met
returns c = cc
