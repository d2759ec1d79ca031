use Rattle.layout.proofs.entry_word.Goals as goal

pub returns : goal.returns
returns c = cc
