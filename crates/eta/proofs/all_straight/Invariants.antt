use Rattle.std.proofs.Common.{◌-◌, ◌≡◌}
use Rattle.eta.specs.Eta.{all_straight}
use Rattle.eta.proofs.all_straight.Given as goal

abbrev pub invariant-loop : goal.invariant-loop
invariant-loop l = all_straight l.ws l.file l.sets l.r l.x.0 l.y.0 (l.k - l.counter) ≡ all_straight l.ws l.file l.sets l.r l.initial.x.0 l.initial.y.0 l.k
