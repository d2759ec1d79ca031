use Rattle.words.specs.Left.{left}
use Rattle.graft.specs.Ways.{copy_made, copy_refused}
use Rattle.graft.specs.Graft.{copy_node}
use Rattle.graft.proofs.copy_node.Goals as goal

pub returns-in-At : goal.returns-in-At
returns-in-At c = left {x = copy_node _ _ _} (search copy_made)

pub returns-in-Refused : goal.returns-in-Refused
returns-in-Refused c = left {x = copy_node _ _ _} (search copy_refused)
