use Rattle.ends.specs.Ends.{node_is}
use Rattle.ends.proofs.node_end.Goals as goal

pub returns : goal.returns
returns c = search node_is
