use Rattle.pools.specs.Pools.{give_slot}
use Rattle.pools.proofs.give_slot.Goals as goal

pub returns : goal.returns
unfolding give_slot
returns c = cc
