use Rattle.resolve_net.specs.Ways.{net_plain, net_renamed}
use Rattle.resolve_net.specs.Net.{resolved}
use Rattle.resolve_walk.specs.Penned.{penned}
use Rattle.resolve_net.proofs.resolved.Goals as goal

pub returns-then-r-eq0 : goal.returns-then-r-eq0
returns-then-r-eq0 c = penned {x = resolved _ _ _ _ _ _} (search net_plain)

pub returns : goal.returns
returns c = penned {x = resolved _ _ _ _ _ _} (search net_renamed)
