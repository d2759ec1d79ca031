use Rattle.wiring.specs.Steps.{alike_is}
use Rattle.wiring.proofs.alike.Goals as goal

pub returns : goal.returns
returns c = alike_is _ _ _ _ _ c.get.ensures c.get-2.ensures
