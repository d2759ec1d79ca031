use Rattle.write_nodes.specs.Nodes.{numbered}
use Rattle.write_nodes.proofs.numbered.Goals as goal

pub returns : goal.returns
unfolding numbered
returns c = cc
