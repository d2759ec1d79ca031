use Rattle.resolve_walk.specs.Penned.{penned}
use Rattle.resolve_tree.specs.Words.{whole, whole_is}
use Rattle.resolve_tree.proofs.whole.Goals as goal

pub returns : goal.returns
returns c = penned {x = whole _ _ _ _} (search whole_is)
