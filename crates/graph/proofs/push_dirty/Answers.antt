use Rattle.graph.specs.Ways.{push_full, push_room}
use Rattle.graph.proofs.push_dirty.Goals as goal

pub returns-then-k-c : goal.returns-then-k-c
returns-then-k-c c = search push_full

pub returns : goal.returns
returns c = search push_room
