use Rattle.std.proofs.Common.{◌-◌, ◌≡◌, length}
use Rattle.resolve_walk.specs.Walk.{trees}
use Rattle.resolve_net.specs.Net.{net}
use Rattle.resolve_nets.proofs.nets.Given as goal

abbrev pub invariant-loop : goal.invariant-loop
invariant-loop l = (trees (net l.s) (l.n - l.counter) l.ws l.out l.at l.place ≡ trees (net l.s) l.n l.initial.ws l.initial.out l.from l.to) × (length l.ws ≡ length l.initial.ws) × (length l.out ≡ length l.initial.out)
