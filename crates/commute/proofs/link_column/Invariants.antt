use Rattle.std.proofs.Common.{◌≡◌, ◌-◌, length}
use Rattle.commute.specs.Commute.{link_column}
use Rattle.commute.proofs.link_column.Given as goal

abbrev pub invariant-loop-i : goal.invariant-loop-i
invariant-loop-i l = (link_column l.ws l.grid l.x.0 l.j l.i (l.k - l.i) ≡ link_column l.initial.ws l.grid l.initial.x.0 l.j 0 l.k) × (length l.ws ≡ length l.initial.ws)
