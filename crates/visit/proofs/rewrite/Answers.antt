use Rattle.words.specs.Left.{left}
use Rattle.visit.specs.Ways.{rewrite_grafts, rewrite_reduces}
use Rattle.visit.specs.Visits as Spec
use Rattle.visit.proofs.rewrite.Goals as goal

pub returns-then-byte-eq1 : goal.returns-then-byte-eq1
returns-then-byte-eq1 c = left {x = Spec.rewrite _ _ _ _ _} (search rewrite_grafts)

pub returns : goal.returns
returns c = left {x = Spec.rewrite _ _ _ _ _} (search rewrite_reduces)
