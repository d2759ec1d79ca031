use Rattle.std.proofs.Common.{◌-◌, length, ◌≡◌}
use Rattle.image_waits.specs.Waits.{waits_from}
use Rattle.image_waits.proofs.waits_from.Given as goal

abbrev pub invariant-loop : goal.invariant-loop
invariant-loop l = (waits_from l.ws l.marks l.t.0 l.c l.last (l.k - l.counter) ≡ waits_from l.ws l.initial.marks l.t.0 l.first 0 l.k) × (length l.marks ≡ length l.initial.marks)
