use Rattle.embed_nets.specs.Nets.{free_walked, net_walked, net_hung, net_written}
use Rattle.embed_nets.proofs.embed_net.Goals as goal

pub returns : goal.returns
unfolding free_walked net_walked net_hung net_written
returns c = (cc, cc, cc)
