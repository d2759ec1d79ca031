use Rattle.std.proofs.Common.{arith}
use Rattle.put.specs.Laws.{full}
use Rattle.net_writers.specs.Laws.{size_head, head_parts}
use Rattle.net_writers.proofs.put_net_head.Goals as goal

pub returns-then-space-lt7 : goal.returns-then-space-lt7
returns-then-space-lt7 c = full (size_head _ _ _) (omega arith)

pub returns : goal.returns
returns c = search head_parts
