use Rattle.std.proofs.Common.{◌-◌, ◌≡◌, length}
use Rattle.reach_names.specs.Reach as spec
use Rattle.name_table.specs.Table.{find}
use Rattle.reach_names.proofs.mark_nodes.Given as goal

abbrev pub invariant-loop : goal.invariant-loop
invariant-loop l = (spec.mark_all (record { marks = l.marks; order = l.order; count = l.c }) (spec.from_nodes (find l.s l.sorted l.numbers l.m) l.s l.at (l.n - l.counter)) ≡ spec.mark_all (record { marks = l.initial.marks; order = l.initial.order; count = l.count }) (spec.from_nodes (find l.s l.sorted l.numbers l.m) l.s l.from l.n)) × (length l.marks ≡ length l.initial.marks) × (length l.order ≡ length l.initial.order)
