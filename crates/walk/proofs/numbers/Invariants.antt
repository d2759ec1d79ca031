use Rattle.std.proofs.Common.{◌-◌, length, ◌≡◌, ◌+◌, ◌*◌, ◌≤◌}
use Rattle.walk.specs.After.{after}
use Rattle.net_file.specs.Read.{times, below}
use Rattle.walk.proofs.numbers.Given as goal

abbrev pub invariant-loop : goal.invariant-loop
invariant-loop l = (after l.at (times (l.n - l.counter) (below 2 l.bound)) l.s ≡ after l.from (times l.n (below 2 l.bound)) l.s) × (l.at + 2 * (l.n - l.counter) ≤ length l.s)
