use Rattle.run_slice.specs.Run.{slice}
use Rattle.run_slice.proofs.slice.Goals as goal

pub returns : goal.returns
unfolding slice
returns c = (cc, cc)
