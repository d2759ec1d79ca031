use Rattle.load.specs.Ways.{whole_joined}
use Rattle.load.specs.Load.{join_node}
use Rattle.wire_ends.specs.WireEnds.{joined}
use Rattle.load.proofs.join_whole.Goals as goal

pub returns : goal.returns
returns c = joined {x = join_node _ _ _ _ _ _} (search whole_joined)
