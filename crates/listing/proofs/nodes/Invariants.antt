use Rattle.std.proofs.Common.{◌-◌}
use Rattle.text_writers.specs.Wrote.{Still}
use Rattle.listing.specs.Lines.{nodes_text}
use Rattle.listing.proofs.nodes.Given as goal

abbrev pub invariant-loop : goal.invariant-loop
invariant-loop l = Still (nodes_text l.s l.at (l.n - l.counter)) (nodes_text l.s l.first l.n) l.from l.initial.out l.out l.p
