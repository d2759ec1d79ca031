use Rattle.std.proofs.Common.{length, ◌≡◌, ◌≤◌, ◌-◌}
use Rattle.walk.specs.After.{after}
use Rattle.net_file.specs.Read.{times_from, read_name}
use Rattle.walk_names.proofs.names.Given as goal

abbrev pub invariant-loop-i : goal.invariant-loop-i
invariant-loop-i l = (after l.at (times_from (read_name l.paths) l.i (l.n - l.i)) l.s ≡ after l.from (times_from (read_name l.paths) 0 l.n) l.s) × (l.at ≤ length l.s)
