use Rattle.words.specs.Left.{left}
use Rattle.lists.specs.Lists.{push_node}
use Rattle.lists.specs.Ways.{push_none, push_there}
use Rattle.lists.proofs.push_node.Goals as goal

pub returns-then-c-eq0 : goal.returns-then-c-eq0
returns-then-c-eq0 c = left {x = push_node _ _ _} (search push_none)

pub returns : goal.returns
returns c = left {x = push_node _ _ _} (search push_there)
