use Rattle.walk_paths.specs.Paths.{paths_more}
use Rattle.walk.specs.After.{after_within}
use Rattle.walk_paths.proofs.paths.Goals as goal

pub loop-preserved : goal.loop-preserved
loop-preserved c = let next = c.in_ok-at.was in (search paths_more, search after_within)
