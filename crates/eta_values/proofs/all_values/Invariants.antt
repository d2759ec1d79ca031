use Rattle.std.proofs.Common.{◌-◌, ◌≡◌}
use Rattle.eta_values.specs.Values.{all_values}
use Rattle.eta_values.proofs.all_values.Given as goal

abbrev pub invariant-loop : goal.invariant-loop
invariant-loop l = all_values l.ws l.file l.q.0 (l.k - l.counter) l.name ≡ all_values l.ws l.file l.initial.q.0 l.k l.name
