use Rattle.std.proofs.Common.{◌≡◌, ◌-◌, length}
use Rattle.commute.specs.Commute.{copy_across}
use Rattle.commute.proofs.copy_across.Given as goal

abbrev pub invariant-loop-j : goal.invariant-loop-j
invariant-loop-j l = (copy_across l.ws l.a l.grid l.port.0 l.j (l.fn.b.count - l.j) ≡ copy_across l.initial.ws l.a l.grid l.fn.b.aux.0 0 l.fn.b.count) × (length l.ws ≡ length l.initial.ws)
