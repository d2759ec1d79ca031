use Rattle.std.proofs.Common.{◌-◌, ◌≡◌, length}
use Rattle.graph.specs.Graph.{link_all}
use Rattle.graph.proofs.link_all.Given as goal

abbrev pub invariant-loop : goal.invariant-loop
invariant-loop l = (link_all l.ws l.x.0 l.y.0 (l.k - l.counter) ≡ link_all l.initial.ws l.initial.x.0 l.initial.y.0 l.k) × (length l.ws ≡ length l.initial.ws)
