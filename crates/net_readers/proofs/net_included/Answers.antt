use Rattle.net_readers.proofs.net_included.Goals as goal

pub returns : goal.returns
returns c = cc
