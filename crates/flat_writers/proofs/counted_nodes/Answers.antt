use Rattle.flat_writers.specs.Flat.{counted_nodes}
use Rattle.flat_writers.proofs.counted_nodes.Goals as goal

pub returns : goal.returns
returns c = search counted_nodes
