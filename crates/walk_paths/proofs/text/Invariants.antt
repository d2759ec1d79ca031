use Rattle.std.proofs.Common.{length, ◌≡◌, ◌-◌, ◌≤◌}
use Rattle.walk.specs.After.{after}
use Rattle.net_file.specs.Read.{times, read_char}
use Rattle.walk_paths.proofs.text.Given as goal

abbrev pub invariant-loop-at : goal.invariant-loop-at
invariant-loop-at l = (after l.at (times (l.end - l.at) read_char) l.s ≡ after l.from (times l.n read_char) l.s) × (l.at ≤ length l.s)
