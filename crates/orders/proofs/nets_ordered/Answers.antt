use Rattle.orders.specs.Steps.{nets_over, nets_all, nets_not, nets_wide_lem}
use Rattle.orders.proofs.nets_ordered.Goals as goal

pub returns-then-n-gt256 : goal.returns-then-n-gt256
returns-then-n-gt256 c = search nets_over

pub returns-in-Well : goal.returns-in-Well
returns-in-Well c = search nets_all

pub returns-in-Not : goal.returns-in-Not
returns-in-Not c = search nets_not

pub returns-in-Wide : goal.returns-in-Wide
returns-in-Wide c = search nets_wide_lem
