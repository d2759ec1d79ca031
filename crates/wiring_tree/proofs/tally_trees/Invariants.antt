use Rattle.std.proofs.Common.{◌-◌, length}
use Rattle.wiring_tree.specs.Wiring.{Tallies}
use Rattle.wiring_tree.proofs.tally_trees.Given as goal

abbrev pub invariant-loop-c : goal.invariant-loop-c
invariant-loop-c l = Tallies l.s l.from l.k l.base l.initial.counts l.counts l.c

abbrev pub decreases-loop-c : goal.decreases-loop-c
decreases-loop-c l = length l.s - l.c.at
