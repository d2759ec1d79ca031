use Rattle.words.specs.Left.{left}
use Rattle.pools.specs.Ways.{slot_new, slot_freed}
use Rattle.pools.specs.Pools.{take_slot}
use Rattle.pools.proofs.take_slot.Goals as goal

pub returns-then-c-eq0 : goal.returns-then-c-eq0
returns-then-c-eq0 c = left {x = take_slot _} (search slot_new)

pub returns : goal.returns
returns c = left {x = take_slot _} (search slot_freed)
