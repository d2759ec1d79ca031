use Rattle.resolve_net.specs.Ways.{inked, circle_none, circle_some}
use Rattle.resolve_net.specs.Renamed.{circle}
use Rattle.resolve_net.proofs.circle.Goals as goal

pub returns-then-v-eq0 : goal.returns-then-v-eq0
returns-then-v-eq0 c = inked {x = circle _ _ _ _ _} (search circle_none)

pub returns : goal.returns
returns c = inked {x = circle _ _ _ _ _} (search circle_some)
