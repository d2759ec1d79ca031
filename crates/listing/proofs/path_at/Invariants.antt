use Rattle.std.proofs.Common.{◌-◌}
use Rattle.stored.specs.Stored.{path_at}
use Rattle.text_writers.specs.Wrote.{Still}
use Rattle.listing.specs.Lines.{path_text}
use Rattle.listing.proofs.path_at.Given as goal

abbrev pub invariant-loop-j : goal.invariant-loop-j
invariant-loop-j l = Still (path_text l.s l.at l.j (l.k - l.j)) (path_at l.s l.at) l.from l.initial.out l.out l.p
