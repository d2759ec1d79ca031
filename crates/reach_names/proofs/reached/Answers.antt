use Rattle.reach_names.specs.Steps.{nets_ready}
use Rattle.reach_names.proofs.reached.Goals as goal

pub returns : goal.returns
returns c = search nets_ready
