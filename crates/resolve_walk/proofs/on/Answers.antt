use Rattle.resolve_walk.specs.Ways.{on_last, on_room}
use Rattle.resolve_walk.proofs.on.Goals as goal

pub returns-then-room-k : goal.returns-then-room-k
returns-then-room-k c = search on_last

pub returns : goal.returns
returns c = search on_room
