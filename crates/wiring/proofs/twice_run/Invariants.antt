use Rattle.std.proofs.Common.{◌-◌, length, ◌≡◌, ◌+◌, ◌*◌, ◌≤◌}
use Rattle.ends.specs.Runs.{run}
use Rattle.wiring.specs.Wiring.{twice}
use Rattle.net_file.specs.Lists.{all}
use Rattle.stored.specs.Stored.{numbers_at}
use Rattle.wiring.proofs.twice_run.Given as goal

abbrev pub invariant-loop : goal.invariant-loop
invariant-loop l = (all (twice l.counts l.base) (numbers_at l.s l.at (l.n - l.counter)) ≡ all (twice l.counts l.base) (run l.s l.from l.n)) × (l.at + 2 * (l.n - l.counter) ≤ length l.s)
