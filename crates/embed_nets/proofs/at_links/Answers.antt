use Rattle.embed_nets.specs.Nets.{at_links}
use Rattle.embed_nets.proofs.at_links.Goals as goal

pub returns : goal.returns
unfolding at_links
returns c = cc
