use Rattle.wire_places.specs.Places.{node_seen}
use Rattle.wire_places.proofs.mark_node.Goals as goal

pub returns : goal.returns
returns c = search node_seen
