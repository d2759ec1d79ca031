use Rattle.eta.specs.Eta.{join_around}
use Rattle.eta.proofs.join_around.Goals as goal

pub returns : goal.returns
unfolding join_around
returns c = cc
