use Rattle.write_nodes.specs.Wrote.{three}
use Rattle.write_nodes.specs.Ways.{live_free, live_node}
use Rattle.write_nodes.specs.Nodes.{write_live}
use Rattle.write_nodes.proofs.write_live.Goals as goal

pub returns-then-eq : goal.returns-then-eq
returns-then-eq c = three {x = write_live _ _ _ _ _ _} (search live_free)

pub returns : goal.returns
returns c = three {x = write_live _ _ _ _ _ _} (search live_node)
