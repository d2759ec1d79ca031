use Rattle.std.proofs.Common.{◌-◌}
use Rattle.text_writers.specs.Wrote.{Still}
use Rattle.flat_writers.specs.Flat.{wires_from}
use Rattle.flat_writers.proofs.flat_wires.Given as goal

abbrev pub invariant-loop-j : goal.invariant-loop-j
invariant-loop-j l = Still (wires_from l.ws l.stamp l.s l.from l.j (l.n - l.j)) (wires_from l.ws l.stamp l.s l.from 0 l.n) l.at l.initial.out l.out l.p
