use Rattle.std.proofs.Common.{◌-◌, ◌≡◌, length}
use Rattle.wire_ends.specs.WireEnds.{put_pairs}
use Rattle.wire_ends.proofs.put_pairs.Given as goal

abbrev pub invariant-loop : goal.invariant-loop
invariant-loop l = (put_pairs l.wires l.file l.at (l.k - l.counter) ≡ put_pairs l.initial.wires l.file l.from l.k) × (length l.wires ≡ length l.initial.wires)
