use Rattle.words.specs.Left.{left}
use Rattle.interactions.specs.Ways.{apply_erase, apply_commute}
use Rattle.interactions.specs.Interactions as Spec
use Rattle.interactions.proofs.apply.Goals as goal

pub returns-then-tag-eq3 : goal.returns-then-tag-eq3
returns-then-tag-eq3 c = left {x = Spec.apply _ _ _ _ _} (search apply_erase)

pub returns : goal.returns
returns c = left {x = Spec.apply _ _ _ _ _} (search apply_commute)
