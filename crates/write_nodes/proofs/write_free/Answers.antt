use Rattle.write_nodes.specs.Wrote.{three}
use Rattle.write_nodes.specs.Ways.{free_written}
use Rattle.write_nodes.specs.Nodes.{write_free}
use Rattle.write_nodes.proofs.write_free.Goals as goal

pub returns : goal.returns
returns c = three {x = write_free _ _ _ _ _} (search free_written)
