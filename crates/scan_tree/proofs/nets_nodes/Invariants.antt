use Rattle.std.proofs.Common.{◌-◌, ◌+◌, ◌≤◌, min, ◌≡◌}
use Rattle.scan_tree.specs.Count.{nets_nodes}
use Rattle.scan_tree.proofs.nets_nodes.Given as goal

abbrev pub invariant-loop : goal.invariant-loop
invariant-loop l = (min 4097 (l.total + nets_nodes l.s l.at (l.n - l.counter)) ≡ min 4097 (nets_nodes l.s l.from l.n)) × (l.total ≤ 4097)
