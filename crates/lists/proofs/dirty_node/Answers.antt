use Rattle.lists.specs.Lists.{dirty_node}
use Rattle.lists.proofs.dirty_node.Goals as goal

pub returns : goal.returns
unfolding dirty_node
returns c = cc
