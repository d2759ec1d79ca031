use Rattle.pools.specs.Pools.{give_wait}
use Rattle.pools.proofs.give_wait.Goals as goal

pub returns : goal.returns
unfolding give_wait
returns c = cc
