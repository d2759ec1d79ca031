use Rattle.std.proofs.Common.{◌≡◌, ◌+◌, ◌-◌}
use Rattle.repeats.specs.Repeats.{compare_from, compare}
use Rattle.repeats.proofs.compare_bytes.Given as goal

abbrev pub invariant-loop-i : goal.invariant-loop-i
invariant-loop-i l = compare_from l.s (l.a + l.i) (l.b + l.i) (l.n - l.i) ≡ compare l.s l.a l.b l.n
