use Rattle.std.proofs.Common.{◌-◌, length}
use Rattle.scan_tree.specs.Count.{Counts}
use Rattle.scan_tree.proofs.count.Given as goal

abbrev pub invariant-loop-c : goal.invariant-loop-c
invariant-loop-c l = Counts l.s l.from l.k l.c l.n

abbrev pub decreases-loop-c : goal.decreases-loop-c
decreases-loop-c l = length l.s - l.c.at
