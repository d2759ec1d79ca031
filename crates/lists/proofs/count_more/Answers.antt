use Rattle.lists.specs.Ways.{count_full, count_room}
use Rattle.lists.proofs.count_more.Goals as goal

pub returns-then-length-capacity : goal.returns-then-length-capacity
returns-then-length-capacity c = search count_full

pub returns : goal.returns
returns c = search count_room
