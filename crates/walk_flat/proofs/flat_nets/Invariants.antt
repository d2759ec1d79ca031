use Rattle.std.proofs.Common.{◌-◌, length, ◌≡◌, ◌≤◌}
use Rattle.net_file.specs.Read.{times, read_flat_net}
use Rattle.walk.specs.After.{after}
use Rattle.walk_flat.proofs.flat_nets.Given as goal

abbrev pub invariant-loop : goal.invariant-loop
invariant-loop l = (after l.at (times (l.n - l.counter) (read_flat_net l.paths l.names)) l.s ≡ after l.from (times l.n (read_flat_net l.paths l.names)) l.s) × (l.at ≤ length l.s)
