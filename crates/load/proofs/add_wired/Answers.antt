use Rattle.load.specs.Load.{add_wired}
use Rattle.load.proofs.add_wired.Goals as goal

pub returns : goal.returns
unfolding add_wired
returns c = (cc, cc, cc)
