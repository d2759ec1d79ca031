use Rattle.std.proofs.Common.{◌-◌, length, ◌≡◌, ◌+◌, ◌*◌, ◌≤◌}
use Rattle.ends.specs.Runs.{run}
use Rattle.tally.specs.Tally.{tally}
use Rattle.stored.specs.Stored.{numbers_at}
use Rattle.wiring.proofs.tally_run.Given as goal

abbrev pub invariant-loop : goal.invariant-loop
invariant-loop l = (tally l.counts l.base (numbers_at l.s l.at (l.n - l.counter)) ≡ tally l.initial.counts l.base (run l.s l.from l.n)) × (length l.counts ≡ length l.initial.counts) × (l.at + 2 * (l.n - l.counter) ≤ length l.s)
