use Rattle.std.proofs.Common.{◌-◌, ◌≡◌}
use Rattle.measure.specs.Ways.{nets_more, nets_done}
use Rattle.measure.specs.Measure.{nets_size}
use Rattle.measure.proofs.nets_size.Given as goal

abbrev pub invariant-loop-i : goal.invariant-loop-i
invariant-loop-i l = nets_size l.file l.at (l.count - l.i) l.size ≡ nets_size l.file l.initial.at l.count l.initial.size
