use Rattle.eta_values.specs.Values.{aux}
use Rattle.eta_values.proofs.aux.Goals as goal

pub returns : goal.returns
unfolding aux
returns c = cc
