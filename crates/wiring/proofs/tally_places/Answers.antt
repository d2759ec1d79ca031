use Rattle.wiring.specs.Wiring.{net_nodes}
use Rattle.wiring.proofs.tally_places.Goals as goal

pub returns : goal.returns
unfolding net_nodes
returns c = cc
