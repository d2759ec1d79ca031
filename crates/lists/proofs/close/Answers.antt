use Rattle.lists.specs.Lists.{close}
use Rattle.lists.proofs.close.Goals as goal

pub returns : goal.returns
unfolding close
returns c = cc
