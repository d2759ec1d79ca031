use Rattle.orders.specs.Steps.{marked_is}
use Rattle.orders.proofs.marked.Goals as goal

pub returns : goal.returns
returns c = marked_is _ _ _ _ c.get-c.ensures
