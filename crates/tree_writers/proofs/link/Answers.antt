use Rattle.tree_writers.specs.Trees.{link_is}
use Rattle.tree_writers.proofs.link.Goals as goal

pub returns : goal.returns
returns c = search link_is
