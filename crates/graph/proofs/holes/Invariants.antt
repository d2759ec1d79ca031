use Rattle.std.proofs.Common.{◌-◌, ◌≡◌, length}
use Rattle.graph.specs.Graph.{holes}
use Rattle.graph.proofs.holes.Given as goal

abbrev pub invariant-loop : goal.invariant-loop
invariant-loop l = (holes l.ws l.q.0 (l.k - l.counter) ≡ holes l.initial.ws l.initial.q.0 l.k) × (length l.ws ≡ length l.initial.ws)
