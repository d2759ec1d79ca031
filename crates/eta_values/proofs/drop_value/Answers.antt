use Rattle.eta_values.specs.Values.{drop_value}
use Rattle.eta_values.proofs.drop_value.Goals as goal

pub returns : goal.returns
unfolding drop_value
returns c = cc
