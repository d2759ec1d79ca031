use Rattle.std.proofs.Common.{arith, rules}
use Rattle.words.specs.Left.{left}
use native.Mathlib.Nat.{sub-zero}
use Rattle.commute.specs.Ways.{both_more, both_refused, both_done}
use Rattle.commute.specs.Commute.{blank, copy_both}
use Rattle.commute.proofs.copy_both.Goals as goal

pub loop-i-init : goal.loop-i-init
unfolding blank
loop-i-init c = (rw sub-zero, search rules)

pub returns-in-Refused : goal.returns-in-Refused
returns-in-Refused c = left {x = copy_both _ _ _ _ _ _ _} (search both_refused)

pub loop-i-preserved : goal.loop-i-preserved
loop-i-preserved c = (search both_more, omega arith)

pub returns : goal.returns
returns c = left {x = copy_both _ _ _ _ _ _ _} (search both_done)
