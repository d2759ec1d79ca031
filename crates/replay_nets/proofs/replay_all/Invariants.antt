-- `replay_nets::replay_all`: the files counted are as many as the turns at most, and no more differ than there are.
use Rattle.std.proofs.Common.{◌≤◌}
use Rattle.replay_nets.proofs.replay_all.Given as goal

abbrev pub invariant-loop : goal.invariant-loop
invariant-loop g l = (l.tally.files ≤ l.counter) × (l.tally.different ≤ l.tally.files)
