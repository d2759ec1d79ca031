use Rattle.walk_rules.specs.Rules.{lists_more}
use Rattle.walk.specs.After.{after_within}
use Rattle.walk_rules.proofs.lists.Goals as goal

pub loop-preserved : goal.loop-preserved
loop-preserved c = let next = c.in_ok-at.was in (search lists_more, search after_within)
