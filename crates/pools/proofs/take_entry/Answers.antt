use Rattle.words.specs.Left.{left}
use Rattle.pools.specs.Ways.{entry_new, entry_freed}
use Rattle.pools.specs.Pools.{take_entry}
use Rattle.pools.proofs.take_entry.Goals as goal

pub returns-then-c-eq0 : goal.returns-then-c-eq0
returns-then-c-eq0 c = left {x = take_entry _} (search entry_new)

pub returns : goal.returns
returns c = left {x = take_entry _} (search entry_freed)
