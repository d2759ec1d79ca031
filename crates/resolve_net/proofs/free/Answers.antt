use Rattle.resolve_net.specs.Net.{freed}
use Rattle.resolve_net.proofs.free.Goals as goal

pub returns : goal.returns
unfolding freed
returns c = cc
