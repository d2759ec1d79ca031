use Rattle.std.proofs.Common.{◌-◌, length, ◌≡◌, ◌≤◌}
use Rattle.walk.specs.After.{after}
use Rattle.net_file.specs.Read.{times, read_path}
use Rattle.walk_paths.proofs.paths.Given as goal

abbrev pub invariant-loop : goal.invariant-loop
invariant-loop l = (after l.at (times (l.n - l.counter) read_path) l.s ≡ after l.from (times l.n read_path) l.s) × (l.at ≤ length l.s)
