use Rattle.std.proofs.Common.{◌-◌, length, ◌≡◌, ◌≤◌}
use Rattle.net_file.specs.Read.{times, read_list}
use Rattle.walk.specs.After.{after}
use Rattle.walk_rules.proofs.lists.Given as goal

abbrev pub invariant-loop : goal.invariant-loop
invariant-loop l = (after l.at (times (l.n - l.counter) (read_list l.paths)) l.s ≡ after l.from (times l.n (read_list l.paths)) l.s) × (l.at ≤ length l.s)
