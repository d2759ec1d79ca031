use Rattle.std.proofs.Common.{◌-◌, ◌≡◌, length}
use Rattle.eta_values.specs.Values.{drop_values}
use Rattle.eta_values.proofs.drop_values.Given as goal

abbrev pub invariant-loop : goal.invariant-loop
invariant-loop l = (drop_values l.ws l.q.0 (l.k - l.counter) ≡ drop_values l.initial.ws l.initial.q.0 l.k) × (length l.ws ≡ length l.initial.ws)
