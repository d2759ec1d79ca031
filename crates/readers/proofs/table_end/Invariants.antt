use Rattle.std.proofs.Common.{◌-◌, ◌≡◌}
use Rattle.stored.specs.Stored.{table_end}
use Rattle.ends.specs.Ends.{within}
use Rattle.readers.specs.Readers.{part_end}
use Rattle.readers.proofs.table_end.Given as goal

abbrev pub invariant-loop : goal.invariant-loop
invariant-loop l = within l.s (table_end (part_end l.s l.part) l.at (l.n - l.counter)) ≡ within l.s (table_end (part_end l.s l.part) l.from l.n)
