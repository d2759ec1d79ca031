use Rattle.std.proofs.Common.{arith}
use Rattle.stored.specs.Stored.{list_end}
use Rattle.ends.proofs.list_end.Goals as goal

pub returns-then-n-at : goal.returns-then-n-at
unfolding list_end
returns-then-n-at c = omega arith

pub returns-then-n-at-2 : goal.returns-then-n-at-2
unfolding list_end
returns-then-n-at-2 c = omega arith

pub returns : goal.returns
unfolding list_end
returns c = omega arith
