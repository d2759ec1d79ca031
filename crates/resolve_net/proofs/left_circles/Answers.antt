use Rattle.resolve_net.specs.Ways.{inked, left_all, left_marked}
use Rattle.resolve_net.specs.Renamed.{left_circles}
use Rattle.resolve_net.proofs.left_circles.Goals as goal

pub returns-then-below-n : goal.returns-then-below-n
returns-then-below-n c = inked {x = left_circles _ _ _ _ _ _} (search left_all)

pub returns : goal.returns
returns c = inked {x = left_circles _ _ _ _ _ _} (search left_marked)
