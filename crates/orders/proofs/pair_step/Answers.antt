use Rattle.orders.specs.Steps.{step_yes, step_no}
use Rattle.orders.specs.Orders.{pair_step}
use Rattle.words.specs.Left.{left}
use Rattle.orders.proofs.pair_step.Goals as goal

pub returns-then-pair_fits : goal.returns-then-pair_fits
returns-then-pair_fits c = left {x = pair_step _ _ _ _ _} (search step_yes)

pub returns : goal.returns
returns c = left {x = pair_step _ _ _ _ _} (search step_no)
