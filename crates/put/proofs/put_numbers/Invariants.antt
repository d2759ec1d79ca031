use Rattle.std.proofs.Common.{◌+◌, ◌*◌, ◌≤◌, ◌≡◌, length, take}
use Rattle.put.specs.Written.{put_in, numbers}
use Rattle.put.proofs.put_numbers.Given as goal

abbrev pub invariant-loop-i : goal.invariant-loop-i
invariant-loop-i l = (l.out ≡ put_in l.initial.out l.at (numbers (take l.i l.ns))) × (l.at + 2 * length l.ns ≤ length l.initial.out)
