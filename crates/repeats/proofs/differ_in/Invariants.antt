use Rattle.std.proofs.Common.{◌-◌, ◌+◌, ◌≤◌, ◌≡◌, length}
use Rattle.repeats.specs.Repeats as spec
use Rattle.repeats.proofs.differ_in.Given as goal

abbrev pub invariant-loop : goal.invariant-loop
invariant-loop l = (spec.differ_in l.s l.item l.sorted l.at l.m (l.n - l.counter) ≡ spec.differ_in l.s l.item l.initial.sorted l.from 0 l.n) × (length l.sorted ≡ length l.initial.sorted) × (l.m + (l.n - l.counter) ≤ l.n)
