use Rattle.walk_tree.specs.Net.{net_trees_on}
use Rattle.walk_tree.proofs.net_trees.Goals as goal

pub returns : goal.returns
returns c = let free = c.in_ok-e.was in search net_trees_on
