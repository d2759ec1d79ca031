use Rattle.std.proofs.Common.{arith}
use Rattle.scan_tree.specs.Count.{counts_begin, counts_more, runs_less, counts_nodes, runs_past, runs_end}
use Rattle.scan_tree.proofs.count.Goals as goal

pub loop-c-init : goal.loop-c-init
loop-c-init c = search counts_begin

pub overflow_add-n : goal.overflow_add-n
overflow_add-n c = omega arith

pub loop-c-smaller : goal.loop-c-smaller
loop-c-smaller c = search runs_less

pub loop-c-preserved : goal.loop-c-preserved
loop-c-preserved c = search counts_more

pub returns-then-s-end : goal.returns-then-s-end
returns-then-s-end c = record { nodes_value = (search counts_nodes, search runs_past); nodes_in_bounds = omega arith }

pub returns : goal.returns
returns c = record { nodes_value = (search counts_nodes, search runs_end); nodes_in_bounds = omega arith }
