use Rattle.std.proofs.Common.{arith}
use Rattle.scan_tree.specs.Count.{node_zero, node_one}
use Rattle.scan_tree.proofs.node_at.Goals as goal

pub returns-then-byte-eq0 : goal.returns-then-byte-eq0
returns-then-byte-eq0 c = (search node_zero, omega arith)

pub returns-else-byte-eq0 : goal.returns-else-byte-eq0
returns-else-byte-eq0 c = (search node_one, omega arith)
