use Rattle.std.proofs.Common.{◌-◌}
use Rattle.text_writers.specs.Wrote.{Still}
use Rattle.flat_writers.specs.Flat.{nodes_from}
use Rattle.flat_writers.proofs.nodes.Given as goal

abbrev pub invariant-loop : goal.invariant-loop
invariant-loop l = Still (nodes_from l.ws l.stamp l.s l.place (l.n - l.counter)) (nodes_from l.ws l.stamp l.s l.from l.n) l.at l.initial.out l.out l.p
