use Rattle.words.specs.Left.{left}
use Rattle.lists.specs.Lists.{sift}
use Rattle.lists.specs.Ways.{sift_kept, sift_dropped}
use Rattle.lists.proofs.sift.Goals as goal

pub returns-then-node_word-t : goal.returns-then-node_word-t
returns-then-node_word-t c = left {x = sift _ _ _} (search sift_kept)

pub returns : goal.returns
returns c = left {x = sift _ _ _} (search sift_dropped)
