use Rattle.count_flat.specs.Count.{net_nodes}
use Rattle.count_flat.proofs.net_nodes.Goals as goal

pub returns : goal.returns
unfolding net_nodes
returns c = cc
