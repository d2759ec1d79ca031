use Rattle.layout.proofs.node_word.Goals as goal

pub returns : goal.returns
returns c = cc
