use Rattle.ends.specs.Ends.{pairs_small}
use Rattle.ends.specs.Ends.{pairs_none, pairs_is}
use Rattle.ends.proofs.pair_count_at.Goals as goal

pub returns-then-n-le7 : goal.returns-then-n-le7
returns-then-n-le7 c = search pairs_small

pub returns-then-n-at : goal.returns-then-n-at
returns-then-n-at c = search pairs_none

pub returns : goal.returns
returns c = search pairs_is
