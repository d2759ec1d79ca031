use Rattle.words.specs.Left.{left}
use Rattle.graft.specs.Ways.{childless, not_included, child_named}
use Rattle.graft.specs.Graft.{graft_child_words}
use Rattle.graft.proofs.graft_child.Goals as goal

pub returns-then-child_count-eq0 : goal.returns-then-child_count-eq0
returns-then-child_count-eq0 c = left {x = graft_child_words _ _ _ _} (search childless)

pub returns-then-m-eq0 : goal.returns-then-m-eq0
returns-then-m-eq0 c = left {x = graft_child_words _ _ _ _} (search not_included)

pub returns : goal.returns
returns c = left {x = graft_child_words _ _ _ _} (search child_named)
