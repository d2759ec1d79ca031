use Rattle.std.proofs.Common.{◌-◌, length, ◌≡◌, ◌+◌, ◌*◌, ◌≤◌}
use Rattle.orders.specs.Orders.{pairs_from}
use Rattle.wiring.specs.Wiring.{pair_run}
use Rattle.stored.specs.Stored.{pairs_at}
use Rattle.orders.proofs.pairs_run.Given as goal

abbrev pub invariant-loop : goal.invariant-loop
invariant-loop l = (pairs_from l.counts l.base l.last (pairs_at l.s l.at (l.n - l.counter)) ≡ pairs_from l.initial.counts l.base 0 (pair_run l.s l.from l.n)) × (length l.counts ≡ length l.initial.counts) × (l.at + 4 * (l.n - l.counter) ≤ length l.s)
