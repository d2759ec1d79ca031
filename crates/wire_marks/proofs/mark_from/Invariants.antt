use Rattle.std.proofs.Common.{◌+◌, ◌*◌, ◌-◌, ◌≡◌}
use Rattle.stored.specs.Stored.{pairs_at}
use Rattle.wire_marks.specs.Marks.{marked}
use Rattle.wire_marks.proofs.mark_from.Given as goal

abbrev pub invariant-loop-j : goal.invariant-loop-j
invariant-loop-j l = marked l.stamp (pairs_at l.s (l.at + (2 + 4 * l.j)) (l.n - l.j)) l.ws ≡ marked l.stamp (pairs_at l.s (l.at + (2 + 4 * 0)) l.n) l.initial.ws
