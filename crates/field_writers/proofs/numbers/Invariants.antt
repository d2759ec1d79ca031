use Rattle.std.proofs.Common.{◌-◌}
use Rattle.text_writers.specs.Wrote.{Still}
use Rattle.field_writers.specs.Fields.{numbers_from}
use Rattle.field_writers.proofs.numbers.Given as goal

abbrev pub invariant-loop-j : goal.invariant-loop-j
invariant-loop-j l = Still (numbers_from l.s l.from l.j (l.n - l.j)) (numbers_from l.s l.from 0 l.n) l.at l.initial.out l.out l.p
