use Rattle.resolve_net.specs.Net.{net}
use Rattle.resolve_net.proofs.net.Goals as goal

pub returns : goal.returns
unfolding net
returns c = (cc, cc, cc)
