use Rattle.graph.specs.Graph.{fewer}
use Rattle.graph.proofs.fewer.Goals as goal

pub returns : goal.returns
unfolding fewer
returns c = cc
