use Rattle.layout.proofs.wait_word.Goals as goal

pub returns : goal.returns
returns c = cc
