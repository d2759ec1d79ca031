use Rattle.write_nodes.specs.Nodes.{free_ports}
use Rattle.write_nodes.proofs.free_ports.Goals as goal

pub returns : goal.returns
unfolding free_ports
returns c = cc
