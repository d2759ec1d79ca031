use Rattle.flat_nets.specs.Flat.{nodes_at, net_spot, net_words, net_out}
use Rattle.flat_nets.proofs.write_net.Goals as goal

pub returns : goal.returns
unfolding nodes_at net_spot net_words net_out
returns c = (cc, cc, cc)
