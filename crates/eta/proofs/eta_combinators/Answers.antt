use Rattle.words.specs.Left.{left}
use Rattle.eta.specs.Eta.{eta_combinators}
use Rattle.eta.specs.Ways.{eta_straight, eta_not_straight, eta_not_alike}
use Rattle.eta.proofs.eta_combinators.Goals as goal

pub returns-then-all_straight : goal.returns-then-all_straight
returns-then-all_straight c = left {x = eta_combinators _ _ _ _ _ _ _} (search eta_straight)

pub returns-then-alike : goal.returns-then-alike
returns-then-alike c = left {x = eta_combinators _ _ _ _ _ _ _} (search eta_not_straight)

pub returns : goal.returns
returns c = left {x = eta_combinators _ _ _ _ _ _ _} (search eta_not_alike)
