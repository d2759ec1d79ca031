use Rattle.std.proofs.Common.{◌-◌, ◌≡◌}
use Rattle.measure.specs.Ways.{slots_more, slots_done}
use Rattle.measure.specs.Measure.{with_slots, slots_size}
use Rattle.measure.proofs.slots_size.Given as goal

abbrev pub invariant-loop-n : goal.invariant-loop-n
invariant-loop-n l = with_slots l.ws l.file l.n (l.used - l.n) l.size ≡ slots_size l.ws l.file
