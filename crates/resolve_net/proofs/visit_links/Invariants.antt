use Rattle.std.proofs.Common.{◌-◌, ◌≡◌, length}
use Rattle.resolve_net.specs.Renamed.{visit_links}
use Rattle.resolve_net.proofs.visit_links.Given as goal

abbrev pub invariant-loop-i : goal.invariant-loop-i
invariant-loop-i l = (visit_links l.s (l.n - l.i) l.ws l.out l.i l.place ≡ visit_links l.s l.n l.initial.ws l.initial.out 0 l.to) × (length l.ws ≡ length l.initial.ws) × (length l.out ≡ length l.initial.out)
