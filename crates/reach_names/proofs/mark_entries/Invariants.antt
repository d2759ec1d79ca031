use Rattle.std.proofs.Common.{◌≡◌, length, drop}
use Rattle.reach_names.specs.Reach as spec
use Rattle.reach_names.proofs.mark_entries.Given as goal

abbrev pub invariant-loop-e : goal.invariant-loop-e
invariant-loop-e l = (spec.mark_all (record { marks = l.marks; order = l.order; count = l.c }) (drop l.e-index l.entries) ≡ spec.mark_all (record { marks = l.initial.marks; order = l.initial.order; count = l.count }) l.entries) × (length l.marks ≡ length l.initial.marks) × (length l.order ≡ length l.initial.order)
