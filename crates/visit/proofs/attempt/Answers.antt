use Rattle.words.specs.Left.{left}
use Rattle.visit.specs.Ways.{attempt_interacts, attempt_rewrites}
use Rattle.visit.specs.Visits as Spec
use Rattle.visit.proofs.attempt.Goals as goal

pub returns-then-v : goal.returns-then-v
returns-then-v c = left {x = Spec.attempt _ _ _ _ _} (search attempt_interacts)

pub returns : goal.returns
returns c = left {x = Spec.attempt _ _ _ _ _} (search attempt_rewrites)
