use Rattle.wiring.specs.Steps.{twice_is}
use Rattle.wiring.proofs.twice.Goals as goal

pub returns : goal.returns
returns c = twice_is _ _ _ _ c.get.ensures
