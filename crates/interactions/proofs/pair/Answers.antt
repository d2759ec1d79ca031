use Rattle.words.specs.Left.{left}
use Rattle.interactions.specs.Ways.{pair_straight, pair_flipped, pair_none}
use Rattle.interactions.specs.Interactions as Spec
use Rattle.interactions.proofs.pair.Goals as goal

pub returns-then-registered : goal.returns-then-registered
returns-then-registered c = left {x = Spec.pair _ _ _ _ _} (search pair_straight)

pub returns-then-registered-2 : goal.returns-then-registered-2
returns-then-registered-2 c = left {x = Spec.pair _ _ _ _ _} (search pair_flipped)

pub returns : goal.returns
returns c = left {x = Spec.pair _ _ _ _ _} (search pair_none)
