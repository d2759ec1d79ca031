use Rattle.walk_flat.specs.Flat.{node_on}
use Rattle.walk_flat.proofs.node.Goals as goal

pub returns : goal.returns
returns c = let name = c.in_ok-e.was in search node_on
