use Rattle.words.specs.Left.{left}
use Rattle.eta.specs.Eta.{eta_reduce}
use Rattle.eta.specs.Ways.{eta_no_aux, eta_by_values, eta_by_combinators}
use Rattle.eta.proofs.eta_reduce.Goals as goal

pub returns-then-k-eq0 : goal.returns-then-k-eq0
returns-then-k-eq0 c = left {x = eta_reduce _ _ _ _ _ _} (search eta_no_aux)

pub returns-then-q-eq0 : goal.returns-then-q-eq0
returns-then-q-eq0 c = left {x = eta_reduce _ _ _ _ _ _} (search eta_by_values)

pub returns : goal.returns
returns c = left {x = eta_reduce _ _ _ _ _ _} (search eta_by_combinators)
