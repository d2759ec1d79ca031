use Rattle.lists.specs.Lists.{dirty_again}
use Rattle.lists.proofs.dirty_again.Goals as goal

pub returns : goal.returns
unfolding dirty_again
returns c = cc
