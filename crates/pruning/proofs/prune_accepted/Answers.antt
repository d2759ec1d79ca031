use Rattle.pruning.specs.Ways.{accepted_nothing_is, accepted_nothing_left, accepted_reached_is, accepted_reached_left, accepted_refused_is, accepted_refused_left}
use Rattle.pruning.proofs.prune_accepted.Goals as goal

pub returns-then-entries-eq0 : goal.returns-then-entries-eq0
returns-then-entries-eq0 c = (search accepted_nothing_is, search accepted_nothing_left)

pub returns-then-below : goal.returns-then-below
returns-then-below c = (search accepted_reached_is, search accepted_reached_left)

pub returns : goal.returns
returns c = (search accepted_refused_is, search accepted_refused_left)
