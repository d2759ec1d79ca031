use Rattle.words.specs.Left.{left}
use Rattle.annihilate.specs.Ways.{act_spent, act_acts}
use Rattle.annihilate.specs.Annihilate.{act}
use Rattle.annihilate.proofs.act.Goals as goal

pub returns-then-spent : goal.returns-then-spent
returns-then-spent c = left {x = act _ _ _ _} (search act_spent)

pub returns : goal.returns
returns c = left {x = act _ _ _ _} (search act_acts)
