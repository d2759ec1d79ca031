use Rattle.embed_nets.specs.Nets.{left_walked, link_walked, link_hung, link_written}
use Rattle.embed_nets.proofs.embed_link.Goals as goal

pub returns : goal.returns
unfolding left_walked link_walked link_hung link_written
returns c = (cc, cc, cc)
