use Rattle.tree_writers.specs.Trees.{wire_is}
use Rattle.tree_writers.proofs.tree_wire.Goals as goal

pub returns : goal.returns
returns c = search wire_is
