use Rattle.reach_names.specs.Steps.{names_ready}
use Rattle.reach_names.proofs.with_names.Goals as goal

pub returns : goal.returns
returns c = search names_ready
