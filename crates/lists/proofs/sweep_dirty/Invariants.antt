use Rattle.std.proofs.Common.{◌-◌, ◌≡◌, length}
use Rattle.lists.specs.Lists.{sweep_dirty, sweep_dirty_from}
use Rattle.lists.proofs.sweep_dirty.Given as goal

abbrev pub invariant-loop-i : goal.invariant-loop-i
invariant-loop-i l = (sweep_dirty_from l.ws l.i l.kept (l.length - l.i) ≡ sweep_dirty l.initial.ws) × (length l.ws ≡ length l.initial.ws)
