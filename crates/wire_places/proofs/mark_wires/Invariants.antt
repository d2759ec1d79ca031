use Rattle.std.proofs.Common.{◌+◌, ◌*◌, ◌-◌, ◌≡◌}
use Rattle.stored.specs.Stored.{numbers_at}
use Rattle.wire_places.specs.Places.{seen}
use Rattle.wire_places.proofs.mark_wires.Given as goal

abbrev pub invariant-loop-j : goal.invariant-loop-j
invariant-loop-j l = seen l.stamp (numbers_at l.s (l.from + (1 + 2 * l.j)) (l.n - l.j)) l.ws ≡ seen l.stamp (numbers_at l.s (l.from + (1 + 2 * 0)) l.n) l.initial.ws
