use Rattle.std.proofs.Common.{arith}
use Rattle.resolve_net.specs.Ways.{inked, marked_more, marked_done}
use Rattle.resolve_net.specs.Renamed.{circles}
use Rattle.resolve_net.proofs.marked_circles.Goals as goal

pub loop-w-preserved : goal.loop-w-preserved
loop-w-preserved c = (search marked_more, omega arith)

pub returns : goal.returns
returns c = inked {x = circles _ _ _ _ _} (search marked_done)
