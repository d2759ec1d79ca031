use Rattle.std.proofs.Common.{◌-◌, ◌≡◌, ◌+◌, ◌*◌, ◌≤◌, length}
use Rattle.wire_ends.specs.WireEnds.{join_wires}
use Rattle.load.proofs.join_there.Given as goal

abbrev pub invariant-loop : goal.invariant-loop
invariant-loop l = (join_wires l.ws l.wires l.file l.at l.port.0 (l.k - l.counter) ≡ join_wires l.initial.ws l.initial.wires l.file l.from l.initial.port.0 l.k) × (length l.ws ≡ length l.initial.ws) × (length l.wires ≡ length l.initial.wires) × (l.at + 2 * (l.k - l.counter) ≤ length l.file)
