use Rattle.std.proofs.Common.{◌+◌, ◌-◌, ◌≤◌, ◌≡◌}
use Rattle.pruning.specs.Kept as spec
use Rattle.pruning.proofs.count_kept.Given as goal

abbrev pub invariant-loop : goal.invariant-loop
invariant-loop l = (l.c + spec.kept_count l.s l.marks l.at (l.n - l.counter) ≡ spec.kept_count l.s l.marks l.from l.n) × (l.c + (l.n - l.counter) ≤ l.n)
