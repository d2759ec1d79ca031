use Rattle.std.proofs.Common.{◌+◌, ◌*◌, ◌-◌, ◌≡◌, length}
use Rattle.reach_names.specs.Reach as spec
use Rattle.stored.specs.Stored.{numbers_at, list_at}
use Rattle.reach_names.proofs.mark_list.Given as goal

abbrev pub invariant-loop-j : goal.invariant-loop-j
invariant-loop-j l = (spec.mark_all (record { marks = l.marks; order = l.order; count = l.c }) (numbers_at l.s (l.at + (1 + 2 * l.j)) (l.k - l.j)) ≡ spec.mark_all (record { marks = l.initial.marks; order = l.initial.order; count = l.count }) (list_at l.s l.at)) × (length l.marks ≡ length l.initial.marks) × (length l.order ≡ length l.initial.order)
