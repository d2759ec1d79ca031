use Rattle.std.proofs.Common.{◌-◌}
use Rattle.text_writers.specs.Wrote.{Still}
use Rattle.listing.specs.Lines.{nets_text}
use Rattle.listing.proofs.nets.Given as goal

abbrev pub invariant-loop : goal.invariant-loop
invariant-loop l = Still (nets_text l.s l.at (l.n - l.counter)) (nets_text l.s l.first l.n) l.from l.initial.out l.out l.p
