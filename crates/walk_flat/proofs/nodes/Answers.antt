use Rattle.walk_flat.specs.Flat.{nodes_more}
use Rattle.walk.specs.After.{after_within}
use Rattle.walk_flat.proofs.nodes.Goals as goal

pub loop-preserved : goal.loop-preserved
loop-preserved c = let next = c.in_ok-at.was in (search nodes_more, search after_within)
