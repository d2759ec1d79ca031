use Rattle.write_nodes.specs.Nodes.{write_node_words}
use Rattle.write_nodes.proofs.write_node.Goals as goal

pub returns : goal.returns
unfolding write_node_words
returns c = (cc, cc, cc)
