use Rattle.std.proofs.Common.{◌-◌, ◌≡◌, length}
use Rattle.write_nodes.specs.Nodes.{write_wires}
use Rattle.write_nodes.proofs.write_wires.Given as goal

abbrev pub invariant-loop : goal.invariant-loop
invariant-loop l = (write_wires l.ws l.out l.port.0 (l.k - l.counter) l.pen ≡ write_wires l.initial.ws l.initial.out l.initial.port.0 l.k l.initial.pen) × (length l.ws ≡ length l.initial.ws) × (length l.out ≡ length l.initial.out)
