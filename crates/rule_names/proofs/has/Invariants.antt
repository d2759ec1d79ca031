use Rattle.std.proofs.Common.{◌-◌, eqb, length, ◌+◌, ◌*◌, ◌≤◌, ◌≡◌}
use Rattle.ends.specs.Runs.{run}
use Rattle.stored.specs.Stored.{numbers_at}
use Rattle.net_file.specs.Lists.{any}
use Rattle.rule_names.proofs.has.Given as goal

abbrev pub invariant-loop : goal.invariant-loop
invariant-loop l = (any (eqb l.x) (numbers_at l.s l.at (l.n - l.counter)) ≡ any (eqb l.x) (run l.s l.from l.n)) × (l.at + 2 * (l.n - l.counter) ≤ length l.s)
