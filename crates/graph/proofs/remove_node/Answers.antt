use Rattle.graph.specs.Graph.{remove_node}
use Rattle.graph.proofs.remove_node.Goals as goal

pub returns : goal.returns
unfolding remove_node
returns c = cc
