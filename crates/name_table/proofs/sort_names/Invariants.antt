use Rattle.std.proofs.Common.{◌-◌, ◌≡◌, length}
use Rattle.name_table.specs.Table as spec
use Rattle.name_table.proofs.sort_names.Given as goal

abbrev pub invariant-loop-m : goal.invariant-loop-m
invariant-loop-m l = (spec.sort_from l.s l.names (record { places = l.sorted; numbers = l.numbers }) l.m (l.n - l.m) ≡ spec.sort_from l.s l.names (record { places = l.initial.sorted; numbers = l.initial.numbers }) 0 l.n) × (length l.sorted ≡ length l.initial.sorted) × (length l.numbers ≡ length l.initial.numbers)
