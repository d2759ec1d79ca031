use Rattle.words.specs.Left.{left}
use Rattle.visit.specs.Ways.{pair_passed, pair_acted, pair_refused}
use Rattle.visit.specs.Visits.{visit_pair}
use Rattle.visit.proofs.visit_pair.Goals as goal

pub returns-in-Passed : goal.returns-in-Passed
returns-in-Passed c = left {x = visit_pair _ _ _ _ _ _ _} (search pair_passed)

pub returns-in-Acted : goal.returns-in-Acted
returns-in-Acted c = left {x = visit_pair _ _ _ _ _ _ _} (search pair_acted)

pub returns-in-Refused : goal.returns-in-Refused
returns-in-Refused c = left {x = visit_pair _ _ _ _ _ _ _} (search pair_refused)
