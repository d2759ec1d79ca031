use Rattle.words.specs.Left.{left}
use Rattle.pools.specs.Ways.{fresh_there, fresh_none}
use Rattle.pools.specs.Pools.{take_fresh}
use Rattle.pools.proofs.take_fresh.Goals as goal

pub returns-then-k-get : goal.returns-then-k-get
returns-then-k-get c = left {x = take_fresh _ _} (search fresh_there)

pub returns : goal.returns
returns c = left {x = take_fresh _ _} (fresh_none _ _ _ _ c.get-k.ensures c.get.ensures c.if-k-get.false)
