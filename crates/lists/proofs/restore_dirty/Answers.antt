use Rattle.std.proofs.Common.{arith, rules}
use native.Mathlib.Nat.{sub-zero}
use Rattle.lists.specs.Lists.{restore_dirty}
use Rattle.lists.specs.Ways.{restore_dirty_more, restore_dirty_done}
use Rattle.lists.proofs.restore_dirty.Goals as goal

pub loop-i-init : goal.loop-i-init
unfolding restore_dirty
loop-i-init c = (rw sub-zero (cc), search rules)

pub loop-i-preserved : goal.loop-i-preserved
loop-i-preserved c = (search restore_dirty_more, omega arith)

pub returns : goal.returns
returns c = search restore_dirty_done
