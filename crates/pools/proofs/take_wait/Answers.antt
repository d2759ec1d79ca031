use Rattle.words.specs.Left.{left}
use Rattle.pools.specs.Ways.{wait_new, wait_freed}
use Rattle.pools.specs.Pools.{take_wait}
use Rattle.pools.proofs.take_wait.Goals as goal

pub returns-then-c-eq0 : goal.returns-then-c-eq0
returns-then-c-eq0 c = left {x = take_wait _} (search wait_new)

pub returns : goal.returns
returns c = left {x = take_wait _} (search wait_freed)
