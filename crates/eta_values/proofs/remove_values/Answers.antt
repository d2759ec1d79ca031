use Rattle.eta_values.specs.Values.{remove_values}
use Rattle.eta_values.proofs.remove_values.Goals as goal

pub returns : goal.returns
unfolding remove_values
returns c = cc
