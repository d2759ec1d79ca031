use Rattle.resolve_net.specs.Plain.{copy_tree}
use Rattle.resolve_net.proofs.copy_tree.Goals as goal

pub returns : goal.returns
unfolding copy_tree
returns c = (cc, cc)
