use Rattle.graft.specs.Graft.{copy_nodes}
use Rattle.graft.proofs.copy_nodes.Goals as goal

pub returns : goal.returns
unfolding copy_nodes
returns c = (cc, cc)
