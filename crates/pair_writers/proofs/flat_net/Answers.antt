use Rattle.pair_writers.specs.Pairs.{net_is}
use Rattle.pair_writers.proofs.flat_net.Goals as goal

pub returns : goal.returns
returns c = search net_is
