use Rattle.layout.proofs.net_word.Goals as goal

pub returns : goal.returns
returns c = cc
