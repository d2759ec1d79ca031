use Rattle.std.proofs.Common.{◌-◌, ◌≡◌, length}
use Rattle.erase.specs.Erase.{erase_ports}
use Rattle.erase.proofs.erase_ports.Given as goal

abbrev pub invariant-loop : goal.invariant-loop
invariant-loop l = (erase_ports l.ws l.t.0 l.name l.port.0 (l.k - l.counter) ≡ erase_ports l.initial.ws l.t.0 l.name l.initial.port.0 l.k) × (length l.ws ≡ length l.initial.ws)
