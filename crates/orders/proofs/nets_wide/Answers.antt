use Rattle.orders.specs.Steps.{wide_over, wide_well, wide_rest}
use Rattle.orders.proofs.nets_wide.Goals as goal

pub returns-then-n-gt256 : goal.returns-then-n-gt256
returns-then-n-gt256 c = search wide_over

pub returns-in-Well : goal.returns-in-Well
returns-in-Well c = search wide_well

pub returns-in_default : goal.returns-in_default
returns-in_default c = wide_rest _ _ _ _ _ c.if-n-gt256.false c.nets_told.ensures.0 c.in_default.not-Well
