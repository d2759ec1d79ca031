use Rattle.wiring.specs.Steps.{node_there}
use Rattle.wiring.proofs.tally_node.Goals as goal

pub returns : goal.returns
returns c = search node_there
