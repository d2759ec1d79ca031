use Rattle.std.proofs.Common.{◌-◌, length, ◌≡◌}
use Rattle.wiring.specs.Wiring.{nodes_wires}
use Rattle.tally.specs.Tally.{tally}
use Rattle.wiring.proofs.tally_nodes.Given as goal

abbrev pub invariant-loop : goal.invariant-loop
invariant-loop l = (tally l.counts l.base (nodes_wires l.s l.at (l.n - l.counter)) ≡ tally l.initial.counts l.base (nodes_wires l.s l.from l.n)) × (length l.counts ≡ length l.initial.counts)
