use Rattle.flat_nets.specs.Flat.{emptied}
use Rattle.flat_nets.proofs.empty.Goals as goal

pub returns : goal.returns
unfolding emptied
returns c = cc
