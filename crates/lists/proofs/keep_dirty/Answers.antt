use Rattle.words.specs.Left.{left}
use Rattle.lists.specs.Lists.{keep_dirty}
use Rattle.lists.specs.Ways.{dirty_kept, dirty_dropped}
use Rattle.lists.proofs.keep_dirty.Goals as goal

pub returns-then-node_word-eq1 : goal.returns-then-node_word-eq1
returns-then-node_word-eq1 c = left {x = keep_dirty _ _ _} (search dirty_kept)

pub returns : goal.returns
returns c = left {x = keep_dirty _ _ _} (search dirty_dropped)
