use Rattle.words.specs.Left.{left}
use Rattle.erase.specs.Ways.{erase_spent, erase_acts, erase_passes}
use Rattle.erase.specs.Erase.{erase}
use Rattle.erase.proofs.erase.Goals as goal

pub returns-then-spent : goal.returns-then-spent
returns-then-spent c = left {x = erase _ _ _ _} (search erase_spent)

pub returns-then-arity-eq1 : goal.returns-then-arity-eq1
returns-then-arity-eq1 c = left {x = erase _ _ _ _} (search erase_acts)

pub returns : goal.returns
returns c = left {x = erase _ _ _ _} (search erase_passes)
