use Rattle.std.proofs.Common.{◌-◌, ◌≡◌, length}
use Rattle.lists.specs.Lists.{restore, restore_from}
use Rattle.lists.proofs.restore.Given as goal

abbrev pub invariant-loop : goal.invariant-loop
invariant-loop l = (restore_from l.ws l.t.0 l.c (l.k - l.counter) ≡ restore l.initial.ws l.t.0) × (length l.ws ≡ length l.initial.ws)
