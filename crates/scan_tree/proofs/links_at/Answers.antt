use Rattle.std.proofs.Common.{arith}
use Rattle.scan_tree.specs.Count.{links_past, links_is}
use Rattle.scan_tree.proofs.links_at.Goals as goal

pub returns-then-s-at : goal.returns-then-s-at
returns-then-s-at c = (search links_past, omega arith)

pub returns : goal.returns
returns c = (search links_is, omega arith)
