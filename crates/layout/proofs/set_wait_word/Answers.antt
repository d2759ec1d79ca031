use Rattle.layout.proofs.set_wait_word.Goals as goal

pub returns : goal.returns
returns c = cc
