use Rattle.words.specs.Left.{left}
use Rattle.waits.specs.Ways.{take_none, take_some}
use Rattle.waits.specs.Waits.{take_waits}
use Rattle.waits.proofs.take_waits.Goals as goal

pub returns-then-first-eq0 : goal.returns-then-first-eq0
returns-then-first-eq0 c = left {x = take_waits _ _ _} (search take_none)

pub returns : goal.returns
returns c = left {x = take_waits _ _ _} (search take_some)
