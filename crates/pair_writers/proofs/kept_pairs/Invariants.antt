use Rattle.std.proofs.Common.{◌+◌, ◌*◌, ◌-◌, ◌≤◌, ◌≡◌, length}
use Rattle.stored.specs.Stored.{pairs_at}
use Rattle.flat_writers.specs.Flat.{unused_by}
use Rattle.pair_writers.specs.Pairs.{used}
use Rattle.pair_writers.proofs.kept_pairs.Given as goal

abbrev pub invariant-loop-j : goal.invariant-loop-j
invariant-loop-j l = (l.c + length (unused_by (used l.ws l.stamp) (pairs_at l.s (l.at + (2 + 4 * l.j)) (l.n - l.j))) ≡ length (unused_by (used l.ws l.stamp) (pairs_at l.s (l.at + (2 + 4 * 0)) l.n))) × (l.c ≤ l.j)
