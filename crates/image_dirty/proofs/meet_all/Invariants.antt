use Rattle.std.proofs.Common.{◌-◌, length, ◌≡◌}
use Rattle.image_dirty.specs.Dirty.{meet_all}
use Rattle.image_dirty.proofs.meet_all.Given as goal

abbrev pub invariant-loop-i : goal.invariant-loop-i
invariant-loop-i l = (meet_all l.ws l.marks l.i l.met (l.k - l.i) ≡ meet_all l.ws l.initial.marks 0 0 l.k) × (length l.marks ≡ length l.initial.marks)
