use Rattle.std.proofs.Common.{drop}
use Rattle.text_writers.specs.Wrote.{Still}
use Rattle.text_writers.proofs.word.Given as goal

abbrev pub invariant-loop-i : goal.invariant-loop-i
invariant-loop-i l = Still (drop l.i l.s) l.s l.at l.initial.out l.out l.p
