use Rattle.std.proofs.Common.{◌-◌, length}
use Rattle.wiring_tree.specs.Wiring.{Decides}
use Rattle.wiring_tree.proofs.twice_trees.Given as goal

abbrev pub invariant-loop-c : goal.invariant-loop-c
invariant-loop-c l = Decides l.s l.from l.k l.counts l.base l.c

abbrev pub decreases-loop-c : goal.decreases-loop-c
decreases-loop-c l = length l.s - l.c.at
