use Rattle.std.proofs.Common.{◌-◌, ◌+◌, ◌≤◌, ◌≡◌}
use Rattle.free_path.specs.FreePath.{others}
use Rattle.free_path.proofs.others.Given as goal

abbrev pub invariant-loop : goal.invariant-loop
invariant-loop l = (l.found + others l.s l.at (l.n - l.counter) ≡ others l.s l.from l.n) × (l.found + (l.n - l.counter) ≤ l.n)
