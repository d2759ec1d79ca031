use Rattle.std.proofs.Common.{◌-◌, ◌≡◌, length}
use Rattle.eta.specs.Eta.{drop_all_straight}
use Rattle.eta.proofs.drop_all_straight.Given as goal

abbrev pub invariant-loop : goal.invariant-loop
invariant-loop l = (drop_all_straight l.ws l.x.0 l.y.0 (l.k - l.counter) ≡ drop_all_straight l.initial.ws l.initial.x.0 l.initial.y.0 l.k) × (length l.ws ≡ length l.initial.ws)
