use Rattle.pruning.specs.Ways.{reached_is, reached_left}
use Rattle.pruning.proofs.prune_reached.Goals as goal

pub returns : goal.returns
returns c = (search reached_is, search reached_left)
