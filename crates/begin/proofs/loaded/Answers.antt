use Rattle.begin.specs.Begin.{loaded}
use Rattle.begin.proofs.loaded.Goals as goal

pub returns : goal.returns
unfolding loaded
returns c = (cc, cc)
