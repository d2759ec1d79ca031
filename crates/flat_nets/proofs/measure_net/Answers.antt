use Rattle.flat_nets.specs.Flat.{measured, linked}
use Rattle.flat_nets.proofs.measure_net.Goals as goal

pub returns : goal.returns
unfolding measured linked
returns c = (cc, cc)
