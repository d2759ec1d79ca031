use Rattle.walk_tree.specs.Net.{nets_more, net_within}
use Rattle.walk_tree.proofs.tree_nets.Goals as goal

pub loop-preserved : goal.loop-preserved
loop-preserved c = let next = c.in_ok-at.was in (search nets_more, search net_within)
