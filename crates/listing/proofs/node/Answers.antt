use Rattle.listing.specs.Laws.{node_written}
use Rattle.listing.proofs.node.Goals as goal

pub returns : goal.returns
returns c = search node_written
