use Rattle.std.proofs.Common.{◌-◌, length, ◌≡◌, ◌≤◌}
use Rattle.net_file.specs.Read.{times, read_node}
use Rattle.walk.specs.After.{after}
use Rattle.walk_flat.proofs.nodes.Given as goal

abbrev pub invariant-loop : goal.invariant-loop
invariant-loop l = (after l.at (times (l.n - l.counter) (read_node l.paths l.names l.wires)) l.s ≡ after l.from (times l.n (read_node l.paths l.names l.wires)) l.s) × (l.at ≤ length l.s)
