use Rattle.tree_writers.specs.Trees.{list_is}
use Rattle.tree_writers.proofs.list.Goals as goal

pub returns : goal.returns
returns c = search list_is
