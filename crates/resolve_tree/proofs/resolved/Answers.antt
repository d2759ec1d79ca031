use Rattle.resolve_walk.specs.Penned.{penned}
use Rattle.resolve_tree.specs.Words.{resolved, resolved_deep, resolved_at}
use Rattle.resolve_tree.proofs.resolved.Goals as goal

pub returns-in-Some : goal.returns-in-Some
returns-in-Some c = penned {x = resolved _ _ _} (search resolved_at)

pub returns-in-None : goal.returns-in-None
returns-in-None c = penned {x = resolved _ _ _} (search resolved_deep)
