use Rattle.wiring.specs.Wiring.{net_tallied}
use Rattle.wiring.proofs.tally_net.Goals as goal

pub returns : goal.returns
unfolding net_tallied
returns c = cc
