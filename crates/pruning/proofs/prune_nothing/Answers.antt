use Rattle.pruning.specs.Ways.{nothing_full_is, nothing_full_left, nothing_is, nothing_left}
use Rattle.pruning.proofs.prune_nothing.Goals as goal

pub returns-then-out-n : goal.returns-then-out-n
returns-then-out-n c = (search nothing_full_is, search nothing_full_left)

pub returns : goal.returns
returns c = (search nothing_is, search nothing_left)
