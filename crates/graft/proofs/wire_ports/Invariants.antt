use Rattle.std.proofs.Common.{◌-◌, ◌≡◌, length}
use Rattle.graft.specs.Graft.{wire_ports}
use Rattle.graft.proofs.wire_ports.Given as goal

abbrev pub invariant-loop : goal.invariant-loop
invariant-loop l = (wire_ports l.ws l.x.0 l.y.0 (l.k - l.counter) ≡ wire_ports l.initial.ws l.initial.x.0 l.initial.y.0 l.k) × (length l.ws ≡ length l.initial.ws)
