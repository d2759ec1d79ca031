use Rattle.std.proofs.Common.{◌≡◌, ◌-◌, length}
use Rattle.commute.specs.Commute.{blank, copy_both}
use Rattle.commute.proofs.copy_both.Given as goal

abbrev pub invariant-loop-i : goal.invariant-loop-i
invariant-loop-i l = (copy_both l.ws l.a l.b l.grid l.port.0 l.i (l.a.count - l.i) ≡ copy_both l.initial.ws l.a l.b blank l.a.aux.0 0 l.a.count) × (length l.ws ≡ length l.initial.ws)
