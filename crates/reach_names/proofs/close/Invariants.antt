use Rattle.std.proofs.Common.{◌-◌, ◌≡◌, length}
use Rattle.reach_names.specs.Reach as spec
use Rattle.name_table.specs.Table.{find}
use Rattle.reach_names.proofs.close.Given as goal

abbrev pub invariant-loop-h : goal.invariant-loop-h
invariant-loop-h l = (spec.close (spec.onward (find l.s l.sorted l.numbers l.m) l.s l.names l.nets) (record { marks = l.marks; order = l.order; count = l.c }) l.h (1024 - l.h) ≡ spec.close (spec.onward (find l.s l.sorted l.numbers l.m) l.s l.names l.nets) (record { marks = l.initial.marks; order = l.initial.order; count = l.count }) 0 1024) × (length l.marks ≡ length l.initial.marks) × (length l.order ≡ length l.initial.order)
