use Rattle.std.proofs.Common.{◌-◌, ◌≡◌, length}
use Rattle.graft.specs.Graft.{copy_entries}
use Rattle.graft.proofs.copy_entries.Given as goal

abbrev pub invariant-loop : goal.invariant-loop
invariant-loop l = (copy_entries l.ws l.t.0 l.c (l.count - l.counter) ≡ copy_entries l.initial.ws l.t.0 l.initial.c l.count) × (length l.ws ≡ length l.initial.ws)
