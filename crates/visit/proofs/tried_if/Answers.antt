use Rattle.words.specs.Left.{left}
use Rattle.visit.specs.Ways.{if_in, if_out}
use Rattle.visit.specs.Visits.{tried_if}
use Rattle.visit.proofs.tried_if.Goals as goal

pub returns-then-set-eq1 : goal.returns-then-set-eq1
returns-then-set-eq1 c = left {x = tried_if _ _ _ _ _ _} (search if_in)

pub returns : goal.returns
returns c = left {x = tried_if _ _ _ _ _ _} (search if_out)
