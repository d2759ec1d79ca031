use Rattle.std.proofs.Common.{arith}
use Rattle.put.specs.Laws.{full}
use Rattle.net_writers.specs.Laws.{size_wire, wire_parts}
use Rattle.net_writers.proofs.put_tree_wire.Goals as goal

pub returns-then-space-lt3 : goal.returns-then-space-lt3
returns-then-space-lt3 c = full (size_wire _) (omega arith)

pub returns : goal.returns
returns c = search wire_parts
