use Rattle.std.proofs.Common.{◌-◌, ◌≡◌, length}
use Rattle.graft.specs.Graft.{wire_entries}
use Rattle.graft.proofs.wire_entries.Given as goal

abbrev pub invariant-loop : goal.invariant-loop
invariant-loop l = (wire_entries l.ws l.c (l.count - l.counter) ≡ wire_entries l.initial.ws l.initial.c l.count) × (length l.ws ≡ length l.initial.ws)
