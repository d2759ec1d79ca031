use Rattle.write_nodes.specs.Nodes.{on}
use Rattle.write_nodes.proofs.on.Goals as goal

pub returns : goal.returns
unfolding on
returns c = cc
