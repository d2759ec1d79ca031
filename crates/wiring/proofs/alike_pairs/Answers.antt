use Rattle.wiring.specs.Wiring.{net_pairs}
use Rattle.wiring.proofs.alike_pairs.Goals as goal

pub returns : goal.returns
unfolding net_pairs
returns c = cc
