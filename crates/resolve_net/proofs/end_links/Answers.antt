use Rattle.resolve_net.specs.Renamed.{end_links}
use Rattle.resolve_net.proofs.end_links.Goals as goal

pub returns : goal.returns
unfolding end_links
returns c = (cc, cc)
