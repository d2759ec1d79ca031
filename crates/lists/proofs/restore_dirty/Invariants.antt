use Rattle.std.proofs.Common.{◌-◌, ◌≡◌, length}
use Rattle.lists.specs.Lists.{restore_dirty, restore_dirty_from}
use Rattle.lists.proofs.restore_dirty.Given as goal

abbrev pub invariant-loop-i : goal.invariant-loop-i
invariant-loop-i l = (restore_dirty_from l.ws l.i (l.length - l.i) ≡ restore_dirty l.initial.ws) × (length l.ws ≡ length l.initial.ws)
