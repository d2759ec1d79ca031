use Rattle.std.proofs.Common.{◌-◌, ◌≡◌}
use Rattle.ends.specs.Ends.{within}
use Rattle.stored.specs.Stored.{table_end, node_end}
use Rattle.ends.proofs.nodes_end.Given as goal

abbrev pub invariant-loop : goal.invariant-loop
invariant-loop l = within l.s (table_end (node_end l.s) l.at (l.n - l.counter)) ≡ within l.s (table_end (node_end l.s) l.from l.n)
