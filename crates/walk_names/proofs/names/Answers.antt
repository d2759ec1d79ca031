use Rattle.walk_names.specs.Names.{names_more}
use Rattle.walk.specs.After.{after_within}
use Rattle.walk_names.proofs.names.Goals as goal

pub loop-i-preserved : goal.loop-i-preserved
loop-i-preserved c = let next = c.in_ok-at.was in (search names_more, search after_within)
