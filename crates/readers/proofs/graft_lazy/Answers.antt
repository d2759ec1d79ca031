use Rattle.readers.proofs.graft_lazy.Goals as goal

pub returns : goal.returns
returns c = cc
