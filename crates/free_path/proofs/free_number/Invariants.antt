use Rattle.std.proofs.Common.{◌+◌, ◌-◌, ◌≡◌}
use Rattle.free_path.specs.FreePath.{free_number}
use Rattle.free_path.proofs.free_number.Given as goal

abbrev pub invariant-loop-i : goal.invariant-loop-i
invariant-loop-i l = l.i + free_number l.s l.at (l.n - l.i) ≡ free_number l.s l.from l.n
