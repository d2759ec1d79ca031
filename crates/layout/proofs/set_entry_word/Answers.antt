use Rattle.layout.proofs.set_entry_word.Goals as goal

pub returns : goal.returns
returns c = cc
