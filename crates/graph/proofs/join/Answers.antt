use Rattle.graph.specs.Graph.{join}
use Rattle.graph.proofs.join.Goals as goal

pub returns : goal.returns
unfolding join
returns c = cc
