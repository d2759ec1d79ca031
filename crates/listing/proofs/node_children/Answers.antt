use Rattle.listing.specs.Laws.{children_written}
use Rattle.listing.proofs.node_children.Goals as goal

pub returns : goal.returns
returns c = search children_written
