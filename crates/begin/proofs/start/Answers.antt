use Rattle.begin.specs.Begin.{start}
use Rattle.begin.proofs.start.Goals as goal

pub returns : goal.returns
unfolding start
returns c = cc
