use Rattle.layout.proofs.set_net_word.Goals as goal

pub returns : goal.returns
returns c = cc
