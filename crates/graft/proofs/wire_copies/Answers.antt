use Rattle.graft.specs.Graft.{wire_copies}
use Rattle.graft.proofs.wire_copies.Goals as goal

pub returns : goal.returns
unfolding wire_copies
returns c = cc
