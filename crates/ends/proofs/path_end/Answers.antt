use Rattle.std.proofs.Common.{arith}
use Rattle.stored.specs.Stored.{path_end}
use Rattle.ends.proofs.path_end.Goals as goal

pub returns-then-n-at : goal.returns-then-n-at
unfolding path_end
returns-then-n-at c = omega arith

pub returns-then-n-at-2 : goal.returns-then-n-at-2
unfolding path_end
returns-then-n-at-2 c = omega arith

pub returns : goal.returns
unfolding path_end
returns c = omega arith
