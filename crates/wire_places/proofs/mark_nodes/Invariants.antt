use Rattle.std.proofs.Common.{◌-◌, ◌≡◌}
use Rattle.wire_places.specs.Places.{seen, nodes_wires}
use Rattle.wire_places.proofs.mark_nodes.Given as goal

abbrev pub invariant-loop : goal.invariant-loop
invariant-loop l = seen l.stamp (nodes_wires l.s l.place (l.n - l.counter)) l.ws ≡ seen l.stamp (nodes_wires l.s l.from l.n) l.initial.ws
