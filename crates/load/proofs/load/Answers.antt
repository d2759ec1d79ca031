use Rattle.load.specs.Load.{load}
use Rattle.load.proofs.load.Goals as goal

pub returns : goal.returns
unfolding load
returns c = (cc, cc)
