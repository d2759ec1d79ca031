use Rattle.listing.specs.Nets.{limit_none, limit_some}
use Rattle.listing.proofs.limit.Goals as goal

pub returns-then-n : goal.returns-then-n
returns-then-n c = search limit_none

pub returns : goal.returns
returns c = search limit_some
