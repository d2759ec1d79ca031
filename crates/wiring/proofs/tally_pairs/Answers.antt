use Rattle.wiring.specs.Wiring.{paired_wires}
use Rattle.wiring.proofs.tally_pairs.Goals as goal

pub returns : goal.returns
unfolding paired_wires
returns c = cc
