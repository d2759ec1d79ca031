use Rattle.std.proofs.Common.{◌+◌, ◌≤◌, ◌≡◌, length}
use Rattle.put.specs.Written.{put_in, part}
use Rattle.put.proofs.put_bytes.Given as goal

abbrev pub invariant-loop-i : goal.invariant-loop-i
invariant-loop-i l = (l.out ≡ put_in l.initial.out l.at (part l.s l.from l.i)) × (l.at + l.n ≤ length l.initial.out) × (length l.out ≡ length l.initial.out) × (l.from + l.n ≤ length l.s)
