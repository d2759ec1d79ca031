use Rattle.eta_values.specs.Values.{meets}
use Rattle.eta_values.proofs.meets.Goals as goal

pub returns : goal.returns
unfolding meets
returns c = cc
