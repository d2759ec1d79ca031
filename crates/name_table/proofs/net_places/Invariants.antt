use Rattle.std.proofs.Common.{◌-◌, ◌≡◌, length}
use Rattle.name_table.specs.Table as spec
use Rattle.name_table.proofs.net_places.Given as goal

abbrev pub invariant-loop : goal.invariant-loop
invariant-loop l = (spec.net_places l.s l.nets l.at (l.n - l.counter) ≡ spec.net_places l.s l.initial.nets l.from l.n) × (length l.nets ≡ length l.initial.nets)
