use Rattle.layout.proofs.set_node_word.Goals as goal

pub returns : goal.returns
returns c = cc
