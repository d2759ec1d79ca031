use Rattle.write_nodes.specs.Nodes.{write_name_words}
use Rattle.write_nodes.proofs.write_name.Goals as goal

pub returns : goal.returns
unfolding write_name_words
returns c = (cc, cc)
