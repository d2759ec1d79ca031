use Rattle.std.proofs.Common.{◌-◌}
use Rattle.text_writers.specs.Wrote.{Still}
use Rattle.pair_writers.specs.Pairs.{pairs_from}
use Rattle.pair_writers.proofs.pairs.Given as goal

abbrev pub invariant-loop : goal.invariant-loop
invariant-loop l = Still (pairs_from l.ws l.stamp l.s l.place (l.n - l.counter)) (pairs_from l.ws l.stamp l.s l.from l.n) l.at l.initial.out l.out l.p
