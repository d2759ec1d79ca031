use Rattle.load.specs.Load.{join_node}
use Rattle.load.proofs.join_node.Goals as goal

pub returns : goal.returns
unfolding join_node
returns c = (cc, cc)
