use Rattle.lists.specs.Lists.{append}
use Rattle.lists.proofs.append.Goals as goal

pub returns : goal.returns
unfolding append
returns c = cc
