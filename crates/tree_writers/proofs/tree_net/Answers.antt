use Rattle.tree_writers.specs.Trees.{net_is}
use Rattle.tree_writers.proofs.tree_net.Goals as goal

pub returns : goal.returns
returns c = search net_is
