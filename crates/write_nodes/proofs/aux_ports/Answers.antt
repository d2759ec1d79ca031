use Rattle.write_nodes.specs.Nodes.{aux_ports}
use Rattle.write_nodes.proofs.aux_ports.Goals as goal

pub returns : goal.returns
unfolding aux_ports
returns c = cc
