use Rattle.ends.specs.Ends.{name_small}
use Rattle.ends.specs.Ends.{name_none, name_is}
use Rattle.ends.proofs.name_end.Goals as goal

pub returns-then-n-le10 : goal.returns-then-n-le10
returns-then-n-le10 c = search name_small

pub returns-then-n-at : goal.returns-then-n-at
returns-then-n-at c = search name_none

pub returns : goal.returns
returns c = search name_is
