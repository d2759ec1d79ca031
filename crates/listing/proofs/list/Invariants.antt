use Rattle.std.proofs.Common.{map, ◌-◌}
use Rattle.stored.specs.Stored.{list_at}
use Rattle.definitions.specs.Text.{decimal}
use Rattle.text_writers.specs.Wrote.{Still}
use Rattle.listing.specs.Lines.{spaced, numbers_text}
use Rattle.listing.proofs.list.Given as goal

abbrev pub invariant-loop-j : goal.invariant-loop-j
invariant-loop-j l = Still (numbers_text l.s l.at l.j (l.k - l.j)) (spaced (map decimal (list_at l.s l.at))) l.from l.initial.out l.out l.p
