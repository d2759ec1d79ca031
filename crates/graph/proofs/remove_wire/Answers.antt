use Rattle.graph.specs.Graph.{remove_wire}
use Rattle.graph.proofs.remove_wire.Goals as goal

pub returns : goal.returns
unfolding remove_wire
returns c = cc
