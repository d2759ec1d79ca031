use Rattle.std.proofs.Common.{◌-◌, ◌≡◌}
use Rattle.eta.specs.Eta.{odd_port}
use Rattle.eta.proofs.odd_port.Given as goal

abbrev pub invariant-loop : goal.invariant-loop
invariant-loop l = odd_port l.ws l.q.0 (l.k - l.counter) ≡ odd_port l.ws l.initial.q.0 l.k
