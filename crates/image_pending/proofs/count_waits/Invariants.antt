use Rattle.std.proofs.Common.{◌+◌, ◌-◌, length, ◌≡◌}
use Rattle.image_pending.specs.Pending.{count_waits}
use Rattle.image_pending.proofs.count_waits.Given as goal

abbrev pub invariant-loop-i : goal.invariant-loop-i
invariant-loop-i l = (count_waits l.ws l.marks l.tally (l.i + 1) (l.k - l.i) ≡ count_waits l.ws l.marks l.initial.tally 1 l.k) × (length l.tally ≡ length l.initial.tally)
