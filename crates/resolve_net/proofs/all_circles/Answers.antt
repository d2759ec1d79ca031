use Rattle.std.proofs.Common.{arith, rules}
use Rattle.resolve_net.specs.Ways.{inked, all_begin, all_more, all_done}
use Rattle.resolve_net.specs.Renamed.{circles}
use Rattle.resolve_net.proofs.all_circles.Goals as goal

pub loop-w-init : goal.loop-w-init
loop-w-init c = (search all_begin, search rules)

pub loop-w-preserved : goal.loop-w-preserved
loop-w-preserved c = (search all_more, omega arith)

pub returns : goal.returns
returns c = inked {x = circles _ _ _ _ _} (search all_done)
