use Rattle.resolve_net.specs.Net.{prepare}
use Rattle.resolve_net.proofs.prepare.Goals as goal

pub returns : goal.returns
unfolding prepare
returns c = (cc, cc)
