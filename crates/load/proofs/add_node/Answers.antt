use Rattle.load.specs.Added.{added}
use Rattle.load.specs.Load.{add_node}
use Rattle.load.specs.Ways.{node_at, node_refused}
use Rattle.load.proofs.add_node.Goals as goal

pub returns-in-At : goal.returns-in-At
returns-in-At c = added {x = add_node _ _ _ _ _} (search node_at)

pub returns-in-Refused : goal.returns-in-Refused
returns-in-Refused c = added {x = add_node _ _ _ _ _} (search node_refused)
