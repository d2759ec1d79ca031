use Rattle.tree_writers.specs.Trees.{counted_links}
use Rattle.tree_writers.proofs.counted_links.Goals as goal

pub returns : goal.returns
returns c = search counted_links
