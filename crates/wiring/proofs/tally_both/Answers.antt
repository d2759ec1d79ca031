use Rattle.wiring.specs.Steps.{node_tallied}
use Rattle.wiring.proofs.tally_both.Goals as goal

pub returns : goal.returns
returns c = search node_tallied
