use Rattle.resolve_net.specs.Net.{pass_links}
use Rattle.resolve_net.proofs.pass_links.Goals as goal

pub returns : goal.returns
unfolding pass_links
returns c = (cc, cc)
