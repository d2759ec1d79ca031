use Rattle.words.specs.Left.{left}
use Rattle.eta.specs.Eta.{act_combinators}
use Rattle.eta.specs.Ways.{combinators_spent, combinators_act}
use Rattle.eta.proofs.act_combinators.Goals as goal

pub returns-then-spent : goal.returns-then-spent
returns-then-spent c = left {x = act_combinators _ _ _ _} (search combinators_spent)

pub returns : goal.returns
returns c = left {x = act_combinators _ _ _ _} (search combinators_act)
