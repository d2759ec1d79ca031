use Rattle.graft.specs.Graft.{wire_copy}
use Rattle.graft.proofs.wire_copy.Goals as goal

pub returns : goal.returns
unfolding wire_copy
returns c = cc
