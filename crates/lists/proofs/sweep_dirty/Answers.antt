use Rattle.std.proofs.Common.{arith, rules}
use native.Mathlib.Nat.{sub-zero}
use Rattle.lists.specs.Lists.{sweep_dirty}
use Rattle.lists.specs.Ways.{sweep_dirty_more, sweep_dirty_done}
use Rattle.lists.proofs.sweep_dirty.Goals as goal

pub loop-i-init : goal.loop-i-init
unfolding sweep_dirty
loop-i-init c = (rw sub-zero (cc), search rules)

pub loop-i-preserved : goal.loop-i-preserved
loop-i-preserved c = (search sweep_dirty_more, omega arith)

pub returns : goal.returns
returns c = search sweep_dirty_done
