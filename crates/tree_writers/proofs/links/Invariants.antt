use Rattle.std.proofs.Common.{◌-◌}
use Rattle.text_writers.specs.Wrote.{Still}
use Rattle.tree_writers.specs.Trees.{links_from}
use Rattle.tree_writers.proofs.links.Given as goal

abbrev pub invariant-loop : goal.invariant-loop
invariant-loop l = Still (links_from l.ws l.stamp l.s l.place (l.n - l.counter)) (links_from l.ws l.stamp l.s l.from l.n) l.at l.initial.out l.out l.p
