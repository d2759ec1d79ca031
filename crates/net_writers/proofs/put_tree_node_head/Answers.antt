use Rattle.std.proofs.Common.{arith}
use Rattle.put.specs.Laws.{full_if, refused}
use Rattle.net_writers.specs.Laws.{size_tree_node, tree_node_parts}
use Rattle.net_writers.proofs.put_tree_node_head.Goals as goal

pub returns-then-children-gt255 : goal.returns-then-children-gt255
returns-then-children-gt255 c = refused (λ h. omega arith)

pub returns-then-space-named : goal.returns-then-space-named
returns-then-space-named c = full_if (size_tree_node _ _ _ _) (omega arith)

pub returns : goal.returns
returns c = search tree_node_parts
