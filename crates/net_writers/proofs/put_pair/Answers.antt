use Rattle.std.proofs.Common.{arith}
use Rattle.put.specs.Laws.{full}
use Rattle.net_writers.specs.Laws.{size_pair, pair_parts}
use Rattle.net_writers.proofs.put_pair.Goals as goal

pub returns-then-space-lt4 : goal.returns-then-space-lt4
returns-then-space-lt4 c = full (size_pair _ _) (omega arith)

pub returns : goal.returns
returns c = search pair_parts
