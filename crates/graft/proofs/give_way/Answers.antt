use Rattle.graft.specs.Graft.{give_way}
use Rattle.graft.proofs.give_way.Goals as goal

pub returns : goal.returns
unfolding give_way
returns c = cc
