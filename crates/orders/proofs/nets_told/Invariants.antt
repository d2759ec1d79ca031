use Rattle.std.proofs.Common.{length, ◌≡◌, ◌-◌, ◌*◌}
use Rattle.orders.specs.Orders.{told}
use Rattle.orders.proofs.nets_told.Given as goal

abbrev pub invariant-loop-i : goal.invariant-loop-i
invariant-loop-i l = (told l.counts l.base l.last l.s l.at (l.n - l.i) ≡ told l.initial.counts 0 l.before l.s l.from l.n) × (length l.counts ≡ length l.initial.counts) × (l.base ≡ 4 * l.i)
