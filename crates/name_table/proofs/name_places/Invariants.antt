use Rattle.std.proofs.Common.{◌-◌, ◌≡◌, length}
use Rattle.name_table.specs.Table as spec
use Rattle.name_table.proofs.name_places.Given as goal

abbrev pub invariant-loop-i : goal.invariant-loop-i
invariant-loop-i l = (spec.name_places l.s l.names l.at l.i (l.n - l.i) ≡ spec.name_places l.s l.initial.names l.from 0 l.n) × (length l.names ≡ length l.initial.names)
