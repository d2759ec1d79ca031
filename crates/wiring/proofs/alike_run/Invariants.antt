use Rattle.std.proofs.Common.{◌-◌, length, ◌≡◌, ◌+◌, ◌*◌, ◌≤◌}
use Rattle.wiring.specs.Wiring.{pair_run, alike}
use Rattle.stored.specs.Stored.{pairs_at}
use Rattle.net_file.specs.Lists.{all}
use Rattle.wiring.proofs.alike_run.Given as goal

abbrev pub invariant-loop : goal.invariant-loop
invariant-loop l = (all (alike l.counts) (pairs_at l.s l.at (l.n - l.counter)) ≡ all (alike l.counts) (pair_run l.s l.from l.n)) × (l.at + 4 * (l.n - l.counter) ≤ length l.s)
