use Rattle.std.proofs.Common.{◌-◌}
use Rattle.text_writers.specs.Wrote.{Still}
use Rattle.tree_writers.specs.Trees.{wires_from}
use Rattle.tree_writers.proofs.tree_wires.Given as goal

abbrev pub invariant-loop-j : goal.invariant-loop-j
invariant-loop-j l = Still (wires_from l.ws l.stamp l.s l.from l.j (l.n - l.j)) (wires_from l.ws l.stamp l.s l.from 0 l.n) l.at l.initial.out l.out l.p
