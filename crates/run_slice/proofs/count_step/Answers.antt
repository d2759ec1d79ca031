use Rattle.run_slice.specs.Run.{count_step}
use Rattle.run_slice.proofs.count_step.Goals as goal

pub returns : goal.returns
unfolding count_step
returns c = cc
