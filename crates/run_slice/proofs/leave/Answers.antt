use Rattle.run_slice.specs.Run.{leave}
use Rattle.run_slice.proofs.leave.Goals as goal

pub returns : goal.returns
unfolding leave
returns c = cc
