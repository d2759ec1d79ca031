use Rattle.write_nodes.specs.Wrote.{three}
use Rattle.write_nodes.specs.Ways.{ports_written}
use Rattle.write_nodes.specs.Nodes.{write_ports}
use Rattle.write_nodes.proofs.write_ports.Goals as goal

pub returns : goal.returns
returns c = three {x = write_ports _ _ _ _} (search ports_written)
