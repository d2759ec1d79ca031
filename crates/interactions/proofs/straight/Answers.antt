use Rattle.words.specs.Left.{left}
use Rattle.interactions.specs.Ways.{straight_equal, straight_both, straight_once}
use Rattle.interactions.specs.Interactions as Spec
use Rattle.interactions.proofs.straight.Goals as goal

pub returns-then-v : goal.returns-then-v
returns-then-v c = left {x = Spec.straight _ _ _ _ _} (search straight_equal)

pub returns-then-registered : goal.returns-then-registered
returns-then-registered c = left {x = Spec.straight _ _ _ _ _} (search straight_both)

pub returns : goal.returns
returns c = left {x = Spec.straight _ _ _ _ _} (search straight_once)
