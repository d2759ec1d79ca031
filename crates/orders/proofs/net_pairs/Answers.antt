use Rattle.orders.specs.Steps.{pairs_are}
use Rattle.orders.specs.Orders.{pairs_from}
use Rattle.words.specs.Left.{left}
use Rattle.orders.proofs.net_pairs.Goals as goal

pub returns : goal.returns
returns c = left {x = pairs_from _ _ _ _} (search pairs_are)
