use Rattle.walk_flat.specs.Flat.{nets_more}
use Rattle.walk.specs.After.{after_within}
use Rattle.walk_flat.proofs.flat_nets.Goals as goal

pub loop-preserved : goal.loop-preserved
loop-preserved c = let next = c.in_ok-at.was in (search nets_more, search after_within)
