use Rattle.std.proofs.Common.{arith}
use Rattle.wire_links.specs.Table.{on}
use Rattle.wire_links.proofs.on.Goals as goal

pub returns-then-at-k : goal.returns-then-at-k
unfolding on
returns-then-at-k c = omega arith

pub returns : goal.returns
unfolding on
returns c = omega arith
