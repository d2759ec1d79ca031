use Rattle.std.proofs.Common.{arith, rules}
use Rattle.words.specs.Left.{left}
use native.Mathlib.Nat.{sub-zero}
use Rattle.commute.specs.Ways.{across_more, across_refused, across_done}
use Rattle.commute.specs.Commute.{copy_across}
use Rattle.commute.proofs.copy_across.Goals as goal

pub loop-j-init : goal.loop-j-init
loop-j-init c = (rw sub-zero, search rules)

pub returns-in-Refused : goal.returns-in-Refused
returns-in-Refused c = left {x = copy_across _ _ _ _ _ _} (search across_refused)

pub loop-j-preserved : goal.loop-j-preserved
loop-j-preserved c = (search across_more, omega arith)

pub returns : goal.returns
returns c = left {x = copy_across _ _ _ _ _ _} (search across_done)
