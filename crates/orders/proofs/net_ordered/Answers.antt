use Rattle.orders.specs.Steps.{name_no, name_yes}
use Rattle.orders.specs.Orders.{net_ordered}
use Rattle.words.specs.Left.{left}
use Rattle.orders.proofs.net_ordered.Goals as goal

pub returns-then-name_fits : goal.returns-then-name_fits
returns-then-name_fits c = left {x = net_ordered _ _ _ _ _} (search name_yes)

pub returns : goal.returns
returns c = left {x = net_ordered _ _ _ _ _} (search name_no)
