use Rattle.std.proofs.Common.{arith}
use Rattle.scan_tree.specs.Count.{net_nodes_past, net_end_past, net_nodes_is, net_end_is}
use Rattle.scan_tree.proofs.count_net.Goals as goal

pub returns-then-s-at : goal.returns-then-s-at
returns-then-s-at c = (search net_nodes_past, search net_end_past)

pub overflow_add-p : goal.overflow_add-p
overflow_add-p c = omega arith

pub returns : goal.returns
returns c = (search net_nodes_is, search net_end_is)
