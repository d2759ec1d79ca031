use Rattle.pools.specs.Pools.{give_entry}
use Rattle.pools.proofs.give_entry.Goals as goal

pub returns : goal.returns
unfolding give_entry
returns c = cc
