use Rattle.std.proofs.Common.{arith, rules}
use Rattle.listing.specs.Laws.{path_absent, path_there}
use Rattle.listing.proofs.path.Goals as goal

pub returns-then-path_count-k : goal.returns-then-path_count-k
returns-then-path_count-k c = path_absent _ _ _ _ (omega arith) (omega arith) (omega arith)

pub returns : goal.returns
returns c = path_there _ _ _ _ _ _ _ (omega arith) c.path_place.ensures (search rules)
