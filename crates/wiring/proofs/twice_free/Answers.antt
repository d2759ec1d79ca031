use Rattle.wiring.specs.Wiring.{free_wires}
use Rattle.wiring.proofs.twice_free.Goals as goal

pub returns : goal.returns
unfolding free_wires
returns c = cc
