use Rattle.graph.specs.Graph.{more}
use Rattle.graph.proofs.more.Goals as goal

pub returns : goal.returns
unfolding more
returns c = cc
