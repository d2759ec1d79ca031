use Rattle.words.specs.Left.{left}
use Rattle.visit.specs.Ways.{visit_free, visit_meets, visit_alone}
use Rattle.visit.specs.Visits as Spec
use Rattle.visit.proofs.visit.Goals as goal

pub returns-then-name-eq0 : goal.returns-then-name-eq0
returns-then-name-eq0 c = left {x = Spec.visit _ _ _ _ _} (search visit_free)

pub returns-then-is_principal : goal.returns-then-is_principal
returns-then-is_principal c = left {x = Spec.visit _ _ _ _ _} (search visit_meets)

pub returns : goal.returns
returns c = left {x = Spec.visit _ _ _ _ _} (search visit_alone)
