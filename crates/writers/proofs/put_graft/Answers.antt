use Rattle.std.proofs.Common.{arith}
use Rattle.put.specs.Laws.{full}
use Rattle.writers.specs.Laws.{size_graft, graft_parts}
use Rattle.writers.proofs.put_graft.Goals as goal

pub returns-then-space-lt4 : goal.returns-then-space-lt4
returns-then-space-lt4 c = full (size_graft _ _) (omega arith)

pub returns : goal.returns
returns c = search graft_parts
