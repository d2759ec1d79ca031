use Rattle.std.proofs.Common.{◌-◌, length, ◌≡◌}
use Rattle.image_lists.specs.Lists.{walk_list}
use Rattle.image_lists.proofs.walk_list.Given as goal

abbrev pub invariant-loop : goal.invariant-loop
invariant-loop l = (walk_list l.ws l.marks l.t.0 l.w (l.k - l.counter) ≡ walk_list l.ws l.initial.marks l.t.0 l.initial.w l.k) × (length l.marks ≡ length l.initial.marks)
