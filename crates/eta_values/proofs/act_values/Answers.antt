use Rattle.words.specs.Left.{left}
use Rattle.eta_values.specs.Values.{act_values}
use Rattle.eta_values.specs.Ways.{values_spent, values_act}
use Rattle.eta_values.proofs.act_values.Goals as goal

pub returns-then-spent : goal.returns-then-spent
returns-then-spent c = left {x = act_values _ _ _ _ _} (search values_spent)

pub returns : goal.returns
returns c = left {x = act_values _ _ _ _ _} (search values_act)
