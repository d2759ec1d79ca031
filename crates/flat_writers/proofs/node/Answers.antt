use Rattle.flat_writers.specs.Flat.{node_is}
use Rattle.flat_writers.proofs.node.Goals as goal

pub returns : goal.returns
returns c = search node_is
