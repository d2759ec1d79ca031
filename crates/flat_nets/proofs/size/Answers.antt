use Rattle.flat_nets.specs.Flat.{size}
use Rattle.flat_nets.proofs.size.Goals as goal

pub returns : goal.returns
unfolding size
returns c = cc
