use Rattle.write_nodes.specs.Wrote.{three}
use Rattle.write_nodes.specs.Ways.{wire_written}
use Rattle.write_nodes.specs.Nodes.{write_wire}
use Rattle.write_nodes.proofs.write_wire.Goals as goal

pub returns : goal.returns
returns c = three {x = write_wire _ _ _ _} (search wire_written)
