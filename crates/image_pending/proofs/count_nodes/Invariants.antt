use Rattle.std.proofs.Common.{◌-◌, length, ◌≡◌}
use Rattle.image_pending.specs.Pending.{count_nodes}
use Rattle.image_pending.proofs.count_nodes.Given as goal

abbrev pub invariant-loop-n : goal.invariant-loop-n
invariant-loop-n l = (count_nodes l.ws l.tally l.n (l.k - l.n) ≡ count_nodes l.ws l.initial.tally 0 l.k) × (length l.tally ≡ length l.initial.tally)
