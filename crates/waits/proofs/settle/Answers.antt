use Rattle.words.specs.Left.{left}
use Rattle.waits.specs.Ways.{settle_own, settle_rest}
use Rattle.waits.specs.Waits.{settle}
use Rattle.waits.proofs.settle.Goals as goal

pub returns-then-net_word-eq0 : goal.returns-then-net_word-eq0
returns-then-net_word-eq0 c = left {x = settle _ _ _ _} (search settle_own)

pub returns : goal.returns
returns c = left {x = settle _ _ _ _} (settle_rest _ _ _ _ _ _ _ c.wake.ensures c.fewer.ensures c.net_word.ensures c.if-net_word-eq0.false)
