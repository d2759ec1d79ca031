use Rattle.tried.specs.Tries.{spent}
use Rattle.tried.proofs.spent.Goals as goal

pub returns : goal.returns
unfolding spent
returns c = cc
