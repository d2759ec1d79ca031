use Rattle.reach_names.specs.Reach as spec
use Rattle.reach_names.specs.Steps.{met, node_found, node_other}
use Rattle.reach_names.proofs.mark_node.Goals as goal

pub returns-then-i-lt1024 : goal.returns-then-i-lt1024
returns-then-i-lt1024 c = met (spec.mark_all _ _) (search node_found)

pub returns : goal.returns
returns c = met (spec.mark_all _ _) (search node_other)
