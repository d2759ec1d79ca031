use Rattle.words.specs.Left.{left}
use Rattle.visit.specs.Ways.{rewrites_none, rewrites_passed, rewrites_acted, rewrites_refused}
use Rattle.visit.specs.Visits as Spec
use Rattle.visit.proofs.rewrites.Goals as goal

pub returns-then-set-eq0 : goal.returns-then-set-eq0
returns-then-set-eq0 c = left {x = Spec.rewrites _ _ _ _ _ _} (search rewrites_none)

pub returns-in-Passed : goal.returns-in-Passed
returns-in-Passed c = left {x = Spec.rewrites _ _ _ _ _ _} (search rewrites_passed)

pub returns-in-Acted : goal.returns-in-Acted
returns-in-Acted c = left {x = Spec.rewrites _ _ _ _ _ _} (search rewrites_acted)

pub returns-in-Refused : goal.returns-in-Refused
returns-in-Refused c = left {x = Spec.rewrites _ _ _ _ _ _} (search rewrites_refused)
