use Rattle.std.proofs.Common.{◌-◌, ◌≡◌, ◌+◌, ◌≤◌, min}
use Rattle.count_flat.specs.Count.{nets_nodes}
use Rattle.count_flat.proofs.nets_nodes.Given as goal

abbrev pub invariant-loop-i : goal.invariant-loop-i
invariant-loop-i l = (min 4097 (l.total + nets_nodes l.s l.at (l.n - l.i)) ≡ min 4097 (nets_nodes l.s l.from l.n)) × (l.total ≤ 4097)
