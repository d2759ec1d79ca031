use Rattle.std.proofs.Common.{◌+◌, ◌-◌, length, ◌≡◌}
use Rattle.image_lists.specs.Lists.{list_holds}
use Rattle.marks.specs.Walks.{each_with}
use Rattle.image_lists.proofs.each_list_holds.Given as goal

abbrev pub invariant-loop-i : goal.invariant-loop-i
invariant-loop-i l = (each_with (list_holds l.ws) l.marks (l.i + 1) (l.k - l.i) ≡ each_with (list_holds l.ws) l.initial.marks 1 l.k) × (length l.marks ≡ length l.initial.marks)
